-- What the pairs of counts of two processes decide of Definitely.
use Rattle.std.specs.Prelude.{ℕ, Bool, List}
use Rattle.def_model.specs.Answers.{IsLeastFree, IsPrintedPath}
use Rattle.def_model.specs.Events.{Computation}
use Rattle.def_model.specs.Observations.{Definitely}
use Rattle.wide_pairs.specs.Pairs.{IsOfPair}
use Rattle.wide_pairs.specs.declared.grid_definitely.Passage.{Passage}
use Rattle.wide_pairs.specs.declared.grid_definitely.Passage.TheVariants.{Passed, Avoided}

-- Of each test that asks for good pairs: every observation passes through a satisfying cut, and this is the least level
-- that has no avoiding one; or there is an avoiding observation, and this is the path that is printed.
abbrev pub IsPassage : Computation → (ℕ → ℕ → Bool) → ℕ → ℕ → Passage → Type 0
IsPassage c good p q (Passed level) =
    (test : List ℕ → Bool) → IsOfPair c test good p q → IsLeastFree c test level × Definitely c test
IsPassage c good p q (Avoided path) =
    (test : List ℕ → Bool) → IsOfPair c test good p q → IsPrintedPath c test path.items × (¬ Definitely c test)
