-- What the loop of `holds` keeps.
use Rattle.std.proofs.Common.{◌≡◌, ℕ, ◌<◌, get_or, length}
use Rattle.wide_conjunctions.specs.declared.holds.Hold.{Hold}
use Rattle.wide_conjunctions.specs.Holds.{IsHold}
use Rattle.wide_conjunctions.proofs.holds.holds.Given as goal

abbrev pub invariant-loop-p : goal.invariant-loop-p
invariant-loop-p l = record {
  count : length l.holds.items ≡ l.p;
  each : (q : ℕ) (d : Hold) → q < l.p → IsHold l.computation.events l.cut q (get_or l.holds.items q d);
}
