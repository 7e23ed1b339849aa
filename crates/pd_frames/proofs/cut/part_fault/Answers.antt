-- The fault of the first byte that has one, of a part without LF that comes next in the line.
use Rattle.std.proofs.Common.{arith}
use Rattle.pd_frames.proofs.Steps.{faces_long_line, faces_long_stream}
use Rattle.pd_frames.proofs.cut.part_fault.Goals as goal

pub returns-then-line_room-stream_room-clause-faulty :
    goal.returns-then-line_room-stream_room-clause-faulty
returns-then-line_room-stream_room-clause-faulty c =
    faces_long_line c.faults_of_parts.ensures.long_line c.lines_grow.ensures.faulty_part c.args.kept.now c.args.line
    c.args.total c.args.part.now (omega arith) (omega arith) (omega arith)

pub returns-then-part-stream_room-clause-faulty : goal.returns-then-part-stream_room-clause-faulty
returns-then-part-stream_room-clause-faulty c =
    faces_long_stream c.faults_of_parts.ensures.long_stream c.lines_grow.ensures.faulty_part c.args.kept.now c.args.line
    c.args.total c.args.part.now (omega arith) (omega arith) (omega arith)
