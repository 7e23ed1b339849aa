-- Takes the next bytes of the stream, and gives the lines that end in them.
use Rattle.std.proofs.Common.{rules}
use Rattle.pd_frames.proofs.Ends.{faulty_batch}
use Rattle.pd_frames.proofs.framer.Framer.feed.Goals as goal

pub returns-then-is_some-clause-batch : goal.returns-then-is_some-clause-batch
returns-then-is_some-clause-batch c = λ bytes s.
    rw c.new.ensures.items (faulty_batch c.fault_stays.ensures _ bytes c.args.piece.now (rw (← c.self.view_is) at s)
    (search rules))
