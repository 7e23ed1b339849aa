-- What the loop of `is_free` keeps.
use Rattle.std.proofs.Common.{ℕ, ◌<◌, get_or}
use Rattle.pd_match.specs.Views.{place_view}
use Rattle.def_model.specs.Order.{IsClock}
use Rattle.wide_conjunctions.proofs.most.is_free.Given as goal

abbrev pub invariant-loop-q : goal.invariant-loop-q
invariant-loop-q l = (k : ℕ) → k < l.q
    → (n : ℕ) × IsClock l.computation.events (place_view l.place) k n × (n < get_or l.firsts k 0)
