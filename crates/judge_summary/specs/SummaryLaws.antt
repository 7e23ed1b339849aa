-- Summaries merge in any order and in any groups.
use Rattle.std.specs.Prelude.{◌≡◌, ℕ, List, ◌++◌, Ok}
use Rattle.judge_summary.specs.Counts.{AreCounts}
use Rattle.judge_summary.specs.Summaries.{Summary, after_all, merged, no_summary, unless_over}

-- what it counts are counts
pub record IsSummary (summary : Summary) : Type 0 where
  pub counts : AreCounts summary.counts
  pub failing : AreCounts summary.failing

abbrev pub MergesCommute : Type 0
MergesCommute = (a b : Summary) → IsSummary a → IsSummary b → merged a b ≡ merged b a

abbrev pub MergesAssociate : Type 0
MergesAssociate =
    (a b c : Summary) → IsSummary a → IsSummary b → IsSummary c → merged (merged a b) c ≡ merged a (merged b c)

-- a summary of nothing changes nothing
abbrev pub NothingMerges : Type 0
NothingMerges = (a : Summary) → IsSummary a → (merged a no_summary ≡ a) × (merged no_summary a ≡ a)

abbrev pub MergesAreSummaries : Type 0
MergesAreSummaries = (a b : Summary) → IsSummary a → IsSummary b → IsSummary (merged a b)

-- Lines that are summed up in two groups, whose summaries merge, come to what they do together: the same summary, or a
-- sum is over the limit in both.
abbrev pub GroupsMerge : Type 0
GroupsMerge =
    (a b : Summary) (lines others : List (List ℕ)) → after_all no_summary lines ≡ Ok a
    → after_all no_summary others ≡ Ok b → after_all no_summary (lines ++ others) ≡ unless_over (merged a b)

-- what lines come to is a summary
abbrev pub LinesMakeSummaries : Type 0
LinesMakeSummaries = (a : Summary) (lines : List (List ℕ)) → after_all no_summary lines ≡ Ok a → IsSummary a
