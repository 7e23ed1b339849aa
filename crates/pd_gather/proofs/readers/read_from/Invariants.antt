-- What the loops of `read_from` keep.
use mathlib.Core.List.{IsPrefix}
use Rattle.std.proofs.Common.{◌≡◌, false}
use Rattle.std.specs.Vec.{vec_len}
use Rattle.def_format.specs.Readings.{NothingMore}
use Rattle.pd_gather.specs.ReadSoFar.{HasRead}
use Rattle.pd_gather.specs.ReadStreams.{read_byte_limit}
use Rattle.pd_gather.specs.Rows.{row_of_reading}
use Rattle.pd_register.specs.Seats.{IsSameSeat, posted_row, seen_history}
use Rattle.pd_spec.specs.Views.{document_view}
use Rattle.pd_gather.proofs.readers.read_from.Given as goal

abbrev pub invariant-reads : goal.invariant-reads
invariant-reads g l = record {
  room : vec_len l.piece ≡ read_byte_limit;
  more : l.stream.reading.stop ≡ NothingMore → g.R.ByteSource.has_ended l.reader ≡ false;
  seat : IsSameSeat l.register l.fn.seat l.seat;
  seen : IsPrefix (seen_history l.fn.seat) (seen_history l.seat);
  posted : posted_row l.seat ≡ row_of_reading l.stream.reading;
  read : HasRead (document_view l.spec).names (g.R.ByteSource.left l.fn.reader)
      (g.R.ByteSource.left l.reader) l.counter l.stream;
}
