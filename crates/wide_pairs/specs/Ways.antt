-- How far the way back from the full cut has come. `test` says whether a cut satisfies.
use Rattle.std.specs.Prelude.{ℕ, Bool, List, ◌++◌, sum}
use Rattle.def_model.specs.Answers.{IsUndoing}
use Rattle.def_model.specs.Cuts.{full_cut}
use Rattle.def_model.specs.Events.{Computation}
use Rattle.def_model.specs.Observations.{IsAvoiding}

-- The processes lead from the full cut back to this avoiding cut: each step undoes the event of the least process that
-- leaves an avoiding cut.
pub record IsReached (c : Computation) (test : List ℕ → Bool) (path : List ℕ) (cut : List ℕ) : Type 0 where
  pub avoiding : IsAvoiding c test (sum cut) cut
  pub onward : (rest : List ℕ) → IsUndoing c test cut rest → IsUndoing c test (full_cut c) (path ++ rest)
