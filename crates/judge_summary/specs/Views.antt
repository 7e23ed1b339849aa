-- What the types of this crate stand for.
use Rattle.std.specs.Prelude.{◌≡◌, ◌⊎◌, true, ℕ, List, map, String, string_bytes, [], ◌∷◌, unwrap_or, Result, MatchResult, Ok, Err}
use Rattle.std.specs.declared.alloc.Global.{Global}
use Rattle.serde_json.specs.Data.{Members, no_members, member}
use Rattle.judge_summary.specs.Counts.{AreCounts, Counts, fits, members_of}
use Rattle.judge_summary.specs.Summaries as summaries
use Rattle.judge_summary.specs.Summaries.{whole}
use Rattle.judge_summary.specs.declared.change.Change.{Change}
use Rattle.judge_summary.specs.declared.fault.LineFault.{LineFault}
use Rattle.judge_summary.specs.declared.fault.LineFault.TheVariants.{Memory}

abbrev pub numbered_view : List (String Global × ℕ) → Counts
numbered_view numbers = map (λ number. (string_bytes number.0, number.1)) numbers

-- the numbers of an object's members, and 0 in place of what is none
abbrev pub numbers_view : Members → Counts
numbers_view no_members = []
numbers_view (member text value others) = (text, unwrap_or (whole value) 0) ∷ numbers_view others

abbrev pub change_view : Change → summaries.Change
change_view change = record { counts = numbered_view change.counts.items; failing = numbered_view change.failing.items }

-- the call leaves what is due, or gives the fault that is due, or that memory ran out
abbrev pub IsDue : {A R : Type 0} → Result A LineFault → A → Result R LineFault → Type 0
IsDue due left answer = MatchResult answer (λ _. due ≡ Ok left) (λ fault. (fault ≡ Memory) ⊎ (due ≡ Err fault))

-- what holds of the members of an object that keeps counts: each is a number over 0 and not over the limit
pub record IsKept (members : Members) : Type 0 where
  pub are_numbers : members ≡ members_of (numbers_view members)
  pub are_counts : AreCounts (numbers_view members)
  pub fit : fits (numbers_view members) ≡ true
