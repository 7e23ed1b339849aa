-- The walk by lists, one level further.
use Rattle.std.proofs.Common.{◌≡◌, ℕ, ◌+◌, ◌-◌, Bool, List, [], ◌∷◌, ◌++◌, length, get_or, take, drop, sym, ap, ◌∙◌, subst, arith}
use Rattle.def_model.specs.Answers.{IsListOf}
use Rattle.def_model.specs.Cuts.{full_cut, total}
use Rattle.def_model.specs.Events.{Computation}
use Rattle.def_model.specs.Laws.{AvoidingLevel, FullLevel}
use Rattle.def_model.specs.Observations.{IsAvoiding}
use Rattle.def_model.specs.Walks.{IsAvoidedBelow}
use Rattle.walk_back.specs.Ways.{AreKept, IsAvoidingLevel, last_number}
use Rattle.pd_level.specs.Levels.{Levelled}
use Rattle.walk_back.specs.Splits.{AreKeptBelow}
use Rattle.walk_back.specs.Listed.{IsAt}

-- the only level that is held
pub only_level : (c : Computation) (test : List ℕ → Bool) (k : ℕ) (levels : List Levelled) (level : Levelled)
    → (at : IsAt c test k levels) → ((d : Levelled) → level ≡ get_or levels (length levels - 1) d) → level ≡ at.0
only_level c test k levels level (held, is, list, number) read =
    read held ∙ ap (λ (ls : List Levelled). get_or ls (length ls - 1) held) is

pub level_at : (c : Computation) (test : List ℕ → Bool) (k : ℕ) (levels : List Levelled) (level : Levelled)
    → IsAt c test k levels → ((d : Levelled) → level ≡ get_or levels (length levels - 1) d)
    → IsAvoidingLevel c test level × (level.number ≡ k)
level_at c test k levels level at read =
    subst (λ (l : Levelled). IsAvoidingLevel c test l × (l.number ≡ k)) (sym (only_level c test k levels level at read))
    (at.2, at.3)

-- the list of its cuts
pub list_here : (c : Computation) (test : List ℕ → Bool) (k : ℕ) (levels : List Levelled) (level : Levelled)
    → IsAt c test k levels → ((d : Levelled) → level ≡ get_or levels (length levels - 1) d)
    → IsListOf (IsAvoiding c test k) level.cuts
list_here c test k levels level at read =
    let is : IsAvoidingLevel c test level × (level.number ≡ k) = level_at c test k levels level at read in
    subst (λ (n : ℕ). IsListOf (IsAvoiding c test n) level.cuts) is.1 is.0

-- its number is the last one
pub last_at : (c : Computation) (test : List ℕ → Bool) (k : ℕ) (levels : List Levelled) → IsAt c test k levels
    → last_number levels ≡ k
last_at c test k levels (held, is, list, number) = ap last_number is ∙ number

pub at_last : (c : Computation) (test : List ℕ → Bool) (k : ℕ) (levels : List Levelled) → IsAt c test k levels
    → IsAt c test (last_number levels) levels
at_last c test k levels at = subst (λ (n : ℕ). IsAt c test n levels) (sym (last_at c test k levels at)) at

-- what is kept below the next number, up to this one
pub kept_to : (c : Computation) (test : List ℕ → Bool) (first gap k : ℕ) (levels : List Levelled)
    → AreKeptBelow c test first gap (k + 1) levels → AreKept c test first gap k levels
kept_to c test first gap k levels kept = record {
  lists = kept.lists;
  begins = kept.begins;
  steps = kept.steps;
  ends = λ lt. (omega (arith, (kept.near lt).0), omega (arith, (kept.near lt).1));
  none = λ none. omega (arith, kept.none none);
}

-- the next level in its place
pub next_at : (c : Computation) (test : List ℕ → Bool) (k : ℕ) (levels pushed left : List Levelled) (next : Levelled)
    → IsAt c test k levels → pushed ≡ levels ++ next ∷ []
    → left ≡ take (length pushed - 2) pushed ++ drop (length pushed - 1) pushed → IsAvoidingLevel c test next
    → next.number ≡ k + 1 → IsAt c test (k + 1) left
next_at c test k levels pushed left next (held, is, rest, same) push after list number =
    let two : pushed ≡ held ∷ next ∷ [] = push ∙ ap (λ (ls : List Levelled). ls ++ next ∷ []) is in (
      next,
      after ∙ ap (λ (ls : List Levelled). take (length ls - 2) ls ++ drop (length ls - 1) ls) two,
      list,
      number,
    )

-- if each level has an avoiding cut, the full cut avoids
pub full_avoids : AvoidingLevel → FullLevel → (c : Computation) (test : List ℕ → Bool)
    → IsAvoidedBelow c test (total c + 1) → IsAvoiding c test (total c) (full_cut c)
full_avoids level full c test some =
    let w : (cut : List ℕ) × IsAvoiding c test (total c) cut = some (total c) (omega arith) in
    subst (λ (x : List ℕ). IsAvoiding c test (total c) x) (full c w.0 (level c test (total c) w.0 w.1)) w.1
