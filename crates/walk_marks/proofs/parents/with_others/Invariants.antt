-- What the loop keeps: the bits are those found in the prefixes of the processes so far.
use Rattle.std.proofs.Common.{◌≡◌, ◌+◌, ◌<◌, ◌≤◌, ◌⊎◌, ◌↔◌, ℕ, IsTrue, false}
use Rattle.walk_keys.specs.Words.{has_bit}
use Rattle.walk_marks.specs.Marks.{HasOtherMark}
use Rattle.walk_marks.specs.RunPlaces.{key_of_run, run_at}
use Rattle.walk_marks.proofs.parents.with_others.Given as goal

abbrev pub invariant-loop-p : goal.invariant-loop-p
invariant-loop-p g l = record {
  bits : (j : ℕ) → j < l.n → IsTrue (has_bit l.found j)
      ↔ (IsTrue (has_bit l.own j) ⊎ HasOtherMark l.before.runs l.marks (key_of_run (run_at l.level.runs l.i))
      (run_at l.level.runs l.i).prefix l.p (l.x + j));
  beyond : (j : ℕ) → l.n ≤ j → has_bit l.found j ≡ false;
}
