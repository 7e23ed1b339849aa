-- A tool of proofs: what a path of process numbers is worth, from some cut on. `test` says whether a cut satisfies.
use Rattle.std.specs.Prelude.{◌≡◌, ℕ, Bool, false, List}
use Rattle.def_model.specs.Events.{Computation}
use Rattle.def_model.specs.Cuts.{IsConsistent, full_cut}
use Rattle.def_model.specs.Observations.{IsWalk, HasNoSatisfying}
use Rattle.def_model.specs.Answers.{cuts_along}

-- the counts are those of a consistent cut that doesn't satisfy
abbrev pub IsAvoidingCut : Computation → (List ℕ → Bool) → List ℕ → Type 0
IsAvoidingCut c test cut = IsConsistent c cut × (test cut ≡ false)

-- the path leads from this cut to the full one, and no cut on it satisfies
abbrev pub AvoidsFrom : Computation → (List ℕ → Bool) → List ℕ → List ℕ → Type 0
AvoidsFrom c test cut path =
    IsWalk c cut (cuts_along cut path) (full_cut c) × HasNoSatisfying test (cuts_along cut path)
