-- What the loop of `gain` keeps.
use Rattle.std.proofs.Common.{◌≡◌, ◌<◌, length}
use Rattle.wide_flow.specs.Flows.{total}
use Rattle.wide_flow.specs.Parts.{IsPart}
use Rattle.wide_flow.proofs.Gains.{handled}
use Rattle.wide_flow.proofs.first.gain.Given as goal

abbrev pub invariant-loop-e : goal.invariant-loop-e
invariant-loop-e l = record {
  part : IsPart (length l.rows) l.steps l.rows l.flow l.frozen.items l.e l.e;
  gained : l.gained ≡ total (handled l.steps l.e) l.flow.left.items;
  less : l.gained < l.target;
}
