-- The first fault of bytes without an LF that stand after others.
use Rattle.def_format.proofs.PartFacts.{short_part, long_line, long_stream}
use Rattle.def_format.proofs.faults_of_parts.Goals as goal

pub returns : goal.returns
returns c = record { sound = short_part; long_line = long_line; long_stream = long_stream }
