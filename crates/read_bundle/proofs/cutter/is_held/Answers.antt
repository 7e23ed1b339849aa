-- A byte that isn't the next one of a separator makes the line none.
use Rattle.std.proofs.Common.{refl}
use Rattle.std.specs.Prelude.{◌==◌}
use Rattle.read_bundle.proofs.Cuts.{unless_dash}
use Rattle.read_bundle.proofs.cutter.is_held.Goals as goal

pub returns-then-held-lt3-clause-no : goal.returns-then-held-lt3-clause-no
returns-then-held-lt3-clause-no c =
    unless_dash c.args.held c.args.byte c.if-held-lt3.true (c.args.byte == 45) refl
