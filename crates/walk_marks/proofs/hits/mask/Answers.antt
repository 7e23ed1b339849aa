-- Each prefix has all counts but the last two.
use Rattle.std.proofs.Common.{sym, ◌∙◌}
use Rattle.walk_marks.proofs.RunKeys.{prefix_length}
use Rattle.walk_marks.proofs.hits.mask.Goals as goal

pub read_prefix-requires-clause-processes : goal.read_prefix-requires-clause-processes
read_prefix-requires-clause-processes g c =
    prefix_length (g.T.RunTest.events c.args.test.now) c.args.level.now c.requires.level c.args.i c.requires.within
    ∙ sym c.requires.level.processes
