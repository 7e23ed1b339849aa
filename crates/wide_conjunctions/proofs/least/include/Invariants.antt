-- What the loop of `include` keeps.
use Rattle.std.proofs.Common.{◌≡◌, ℕ, ◌<◌, ◌≤◌, length, max, get_or}
use Rattle.pd_match.specs.Views.{place_view}
use Rattle.def_model.specs.Order.{IsClock}
use Rattle.wide_conjunctions.proofs.least.include.Given as goal

abbrev pub invariant-loop-q : goal.invariant-loop-q
invariant-loop-q l = record {
  same : length l.counts ≡ length l.initial.counts;
  done : (k : ℕ) → k < l.q → (n : ℕ) × IsClock l.computation.events (place_view l.place) k n
      × (get_or l.counts k 0 ≡ max (get_or l.initial.counts k 0) n);
  left : (k : ℕ) → l.q ≤ k → get_or l.counts k 0 ≡ get_or l.initial.counts k 0;
}
