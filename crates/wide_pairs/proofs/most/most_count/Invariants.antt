-- What the loop of `most_count` keeps.
use Rattle.std.proofs.Common.{ℕ, ◌<◌, ◌≤◌, ◌-◌}
use Rattle.def_model.specs.Events.{event_count, place}
use Rattle.wide_pairs.specs.Mosts.{IsEarly}
use Rattle.wide_pairs.proofs.most.most_count.Given as goal

abbrev pub invariant-loop-low : goal.invariant-loop-low
invariant-loop-low l = record {
  order : l.low ≤ l.high;
  within : l.high ≤ event_count l.computation.events l.r;
  early : (n : ℕ) → 1 ≤ n → n ≤ l.low → IsEarly l.computation.events l.p l.q l.i l.j (place l.r n);
  late : (n : ℕ) → l.high < n → n ≤ event_count l.computation.events l.r
      → ¬ IsEarly l.computation.events l.p l.q l.i l.j (place l.r n);
}

abbrev pub decreases-loop-low : goal.decreases-loop-low
decreases-loop-low l = l.high - l.low
