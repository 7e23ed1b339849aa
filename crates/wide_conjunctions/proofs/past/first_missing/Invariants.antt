-- What the loop of `first_missing` keeps.
use Rattle.std.proofs.Common.{ℕ, ◌<◌, ◌≤◌, get_or}
use Rattle.pd_match.specs.Views.{place_view}
use Rattle.def_model.specs.Order.{IsClock}
use Rattle.wide_conjunctions.proofs.past.first_missing.Given as goal

abbrev pub invariant-loop-p : goal.invariant-loop-p
invariant-loop-p l = (k : ℕ) → k < l.p
    → (n : ℕ) × IsClock l.computation.events (place_view l.place) k n × (get_or l.counts k 0 ≤ n)
