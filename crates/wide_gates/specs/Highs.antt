-- What an event happened before, of one process.
use Rattle.std.specs.Prelude.{ℕ, ◌+◌, ◌<◌, ◌≤◌}
use Rattle.def_model.specs.Events.{Computation, Place, place, event_count}
use Rattle.def_model.specs.Order.{HappenedBefore}

-- it did so before none of the first n events of process q, all of which are there
pub record HasNoneAfter (c : Computation) (e : Place) (q n : ℕ) : Type 0 where
  pub within : n ≤ event_count c q
  pub none : (m : ℕ) → 1 ≤ m → m ≤ n → ¬ HappenedBefore c e (place q m)

-- and before the next one, if there is one
pub record IsHigh (c : Computation) (e : Place) (q n : ℕ) : Type 0 where
  pub none_before : HasNoneAfter c e q n
  pub next : n < event_count c q → HappenedBefore c e (place q (n + 1))
