-- What the loop of `supply` keeps.
use Rattle.std.proofs.Common.{◌≡◌, ◌≢◌, ℕ, ◌+◌, false, get_or, length}
use Rattle.wide_flow.specs.Parts.{IsPart}
use Rattle.wide_flow.specs.Steps.{is_negative}
use Rattle.wide_flow.proofs.supply.supply.Given as goal

abbrev pub invariant-lacking : goal.invariant-lacking
invariant-lacking l = record {
  part : IsPart (length l.rows) l.steps l.rows l.flow l.frozen.items l.e (l.e + 1);
  same : (s : ℕ) → s ≢ l.e → is_negative l.steps s ≡ false
      → get_or l.flow.left.items s 0 ≡ get_or l.initial.flow.left.items s 0;
}

abbrev pub decreases-lacking : goal.decreases-lacking
decreases-lacking l = get_or l.flow.left.items l.e 0
