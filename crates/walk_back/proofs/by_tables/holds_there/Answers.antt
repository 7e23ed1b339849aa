-- The cut is looked up, and the tables are asked.
use Rattle.std.proofs.Common.{◌∙◌, ap}
use Rattle.walk_back.specs.CompiledTests.{meaning_of}
use Rattle.walk_back.proofs.by_tables.holds_there.Goals as goal

pub returns : goal.returns
returns c = rw c.cut-cut.ensures (c.holds.ensures ∙ ap (meaning_of c.args.test.now) c.counts.ensures)
