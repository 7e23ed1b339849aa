-- What the loop of `ask` keeps.
use Rattle.std.proofs.Common.{◌≡◌, ℕ, true}
use Rattle.wide_slice.specs.Points.{IsAskedBy, flag}
use Rattle.wide_slice.proofs.asked.ask.Given as goal

abbrev pub invariant-loop-k : goal.invariant-loop-k
invariant-loop-k l = record {
  asked : IsAskedBy l.points l.process l.k l.flags;
  kept : (g : ℕ) → flag l.initial.flags g ≡ true → flag l.flags g ≡ true;
}
