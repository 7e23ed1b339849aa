-- A tool of proofs: how far a least way has come.
use Rattle.std.specs.Prelude.{◌≡◌, ℕ, List, ◌++◌}
use Rattle.def_model.specs.Cuts.{IsConsistent}
use Rattle.def_model.specs.Events.{Computation}
use Rattle.def_model.specs.Lattice.{IsWithin}
use Rattle.pd_evidence.specs.Ways.{IsLeastWay}

-- A least way from one cut up to another was put at the end of a path.
pub record AddsWay (c : Computation) (from to old new : List ℕ) : Type 0 where
  pub made : List ℕ
  pub is : new ≡ old ++ made
  pub way : IsLeastWay c from to made

-- What was put at the end of a path leads to the cut here: with each least way from here on it is one from the
-- beginning.
pub record IsOnWay (c : Computation) (from to old here path : List ℕ) : Type 0 where
  pub made : List ℕ
  pub is : path ≡ old ++ made
  pub onward : (rest : List ℕ) → IsLeastWay c here to rest → IsLeastWay c from to (made ++ rest)
  pub consistent : IsConsistent c here
  pub within : IsWithin here to
