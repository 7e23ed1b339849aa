-- The same of a part that an LF ends, which may be the first byte at fault.
use Rattle.std.proofs.Common.{arith}
use Rattle.pd_frames.proofs.Steps.{faces_end}
use Rattle.pd_frames.proofs.cut.ended_fault.Goals as goal

pub returns-in-None-clause-faulty : goal.returns-in-None-clause-faulty
returns-in-None-clause-faulty c =
    faces_end c.faults_of_parts.ensures.sound c.lines_grow.ensures.part c.lines_grow.ensures.faulty_feed c.args.kept.now
    c.args.line c.args.total c.args.part.now (omega (arith, c.in-None.ensures.fits))
    (omega (arith, c.in-None.ensures.fits))
