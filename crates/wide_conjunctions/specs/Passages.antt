-- What the observations of a computation pass through.
use Rattle.std.specs.Prelude.{ℕ, Bool, List}
use Rattle.def_model.specs.Events.{Computation}
use Rattle.def_model.specs.Observations.{Definitely}
use Rattle.def_model.specs.Answers.{IsPrintedPath}
use Rattle.wide_conjunctions.specs.Boxes.{IsConjunction, IsPassedAt}
use Rattle.wide_conjunctions.specs.declared.passage.Passage.{Passage}
use Rattle.wide_conjunctions.specs.declared.passage.Passage.TheVariants as passages

-- Of each test that holds exactly where each process is at a good count, this is the path printed of an observation
-- without a satisfying cut.
abbrev pub IsAvoidedBy : Computation → (ℕ → ℕ → Bool) → List ℕ → Type 0
IsAvoidedBy c good path =
    (test : List ℕ → Bool) → IsConjunction c test good → IsPrintedPath c test path × (¬ Definitely c test)

-- the answer, whatever the widths
abbrev pub IsPassage : Computation → (ℕ → ℕ → Bool) → Passage → Type 0
IsPassage c good (passages.Passed level) = IsPassedAt c good level
IsPassage c good (passages.Avoided path) = IsAvoidedBy c good path.items
