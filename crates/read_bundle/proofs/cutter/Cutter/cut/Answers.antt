-- What was held back is no separator, and the run goes on with it.
use Rattle.read_bundle.proofs.Cuts.{cut_line}
use Rattle.read_bundle.proofs.cutter.Cutter.cut.Goals as goal

pub returns-else-is_held : goal.returns-else-is_held
returns-else-is_held c =
    rw c.in-Held.is (cut_line c.args.piece.now c.in-Held.held c.run_of-count-in-Held.result.0
    c.run_of-count-in-Held.result.1 c.requires (c.if-is_held.ensures.no c.if-ends_separator.ensures.no)
    c.run_of-count-in-Held.ensures)
