-- A stream is closed once its reads are done, and what they gave is what was consumed of the source.
use Rattle.std.proofs.Common.{◌≡◌, ℕ, ◌+◌, refl, sym, ◌∙◌, ap, subst, arith}
use Rattle.def_format.specs.Histories.{Row}
use Rattle.def_format.specs.Limits.{stream_byte_limit}
use Rattle.pd_register.specs.Seats.{posted_row, seen_history}
use Rattle.pd_spec.specs.Views.{document_view}
use Rattle.pd_gather.specs.ReadSoFar.{HasRead}
use Rattle.pd_gather.specs.ReadStreams.{IsReadInPart}
use Rattle.pd_gather.specs.Rows.{GoesOnTo, row_of_reading}
use Rattle.pd_gather.proofs.SeatLists.{seen_longer, seen_still}
use Rattle.pd_gather.proofs.Turns.{GivesRead, closes, gives_read, none_in_part, nothing_read, on_err, posts_in_part}
use Rattle.pd_gather.proofs.readers.read_from.Goals as goal
use Rattle.pd_gather.proofs.readers.read_from.Goals.{else-reads-test, then-reads-test+then-is_closed}

pub reads-init : goal.reads-init
reads-init g c = record {
  room = c.in_ok-piece.ensures;
  more = λ _. c.requires.open;
  seat = (c.requires.own, refl);
  seen = seen_still (seen_history c.args.seat.now);
  posted = c.requires.fresh ∙ sym (ap row_of_reading c.new-stream.ensures.same_reading);
  read = nothing_read (document_view c.args.spec.now).names
      (g.R.ByteSource.left c.args.reader.now) c.new-stream.result c.new-stream.ensures;
}

pub post_records-requires-clause-later : goal.post_records-requires-clause-later
post_records-requires-clause-later g c =
    let on = c.in_ok-read_once.ensures.read (document_view c.args.spec.now).names
    (g.R.ByteSource.left c.args.reader.now) c.reads.counter c.reads.invariant.read in
    subst (λ (r : Row). GoesOnTo r (row_of_reading c.read_once.new.stream.reading)) (sym c.reads.invariant.posted)
    on.row

pub reads-preserved : goal.reads-preserved
reads-preserved g c =
    let names = (document_view c.args.spec.now).names in
    let input = g.R.ByteSource.left c.args.reader.now in
    record {
      room = c.reads.invariant.room;
      more = c.in_ok-read_once.ensures.more names input c.reads.counter c.reads.invariant.read;
      seat = (c.post_records.ensures.seat.0, c.post_records.ensures.seat.1 ∙ c.reads.invariant.seat.1);
      seen = seen_longer (seen_history c.args.seat.now) (seen_history c.reads.seat)
          (seen_history c.post_records.new.seat) c.reads.invariant.seen c.post_records.ensures.seen;
      posted = c.in_ok-post_records.ensures.posted;
      read = (c.in_ok-read_once.ensures.read names input c.reads.counter c.reads.invariant.read).has_read;
    }

pub returns-in_err-piece-clause-refused : goal.returns-in_err-piece-clause-refused
returns-in_err-piece-clause-refused g c =
    on_err _ c.from_residual.result
    (none_in_part (document_view c.args.spec.now).names
    (g.R.ByteSource.left c.args.reader.now) (posted_row c.args.seat.now) c.requires.fresh)

pub returns-in_err-read_once-clause-refused : goal.returns-in_err-read_once-clause-refused
returns-in_err-read_once-clause-refused g c =
    let names = (document_view c.args.spec.now).names in
    let input = g.R.ByteSource.left c.args.reader.now in
    on_err _ c.from_residual-in_err-read_once.result
    (subst (IsReadInPart names input (g.R.ByteSource.left c.read_once.new.reader))
    (sym c.reads.invariant.posted)
    (c.in_err-read_once.ensures.refused names input c.reads.counter c.reads.invariant.read))

pub returns-in_err-post_records-clause-refused : goal.returns-in_err-post_records-clause-refused
returns-in_err-post_records-clause-refused g c =
    let names = (document_view c.args.spec.now).names in
    let input = g.R.ByteSource.left c.args.reader.now in
    let on = c.in_ok-read_once.ensures.read names input c.reads.counter c.reads.invariant.read in
    on_err _ c.from_residual-in_err-post_records.result
    (posts_in_part names input (g.R.ByteSource.left c.read_once.new.reader)
    (c.reads.counter + 1) c.read_once.new.stream (posted_row c.reads.seat) (posted_row c.post_records.new.seat)
    on.has_read
    (subst (λ (r : Row). GoesOnTo r (row_of_reading c.read_once.new.stream.reading)) (sym c.reads.invariant.posted)
    on.row)
    c.in_err-post_records.ensures.refused)

pub outcome-outcome-requires : goal.outcome-outcome-requires
outcome-outcome-requires g c =
    elim c.reads-test.branch [
      | else-reads-test w ↦
          let all : c.reads.counter ≡ stream_byte_limit + 1 =
          omega (arith, w.reads-test.false, c.reads.auto.counter-end) in
          closes c.readings_go_on.ensures.sound (document_view c.args.spec.now).names
          (g.R.ByteSource.left c.args.reader.now) (g.R.ByteSource.left c.reads.reader) c.reads.stream
          (subst (λ (reads : ℕ). HasRead (document_view c.args.spec.now).names
          (g.R.ByteSource.left c.args.reader.now) (g.R.ByteSource.left c.reads.reader) reads c.reads.stream)
          all c.reads.invariant.read)
      | then-reads-test+then-is_closed w ↦ w.if-is_closed.ensures.yes
    ]

pub returns-clause-read : goal.returns-clause-read
returns-clause-read g c =
    let given : GivesRead (document_view c.args.spec.now).names
    (g.R.ByteSource.left c.args.reader.now) (g.R.ByteSource.left c.reads.reader) (posted_row c.reads.seat)
    c.outcome-outcome.result =
    gives_read c.closed_stays.ensures (document_view c.args.spec.now).names
    (g.R.ByteSource.left c.args.reader.now) (g.R.ByteSource.left c.reads.reader) c.reads.counter
    c.reads.stream (posted_row c.reads.seat) c.outcome-outcome.result c.reads.invariant.read c.reads.invariant.posted
    (record { value = c.outcome-outcome.ensures.value; fits = c.outcome-outcome.ensures.fits }) in
    given.read

pub returns-clause-fits : goal.returns-clause-fits
returns-clause-fits g c =
    let given : GivesRead (document_view c.args.spec.now).names
    (g.R.ByteSource.left c.args.reader.now) (g.R.ByteSource.left c.reads.reader) (posted_row c.reads.seat)
    c.outcome-outcome.result =
    gives_read c.closed_stays.ensures (document_view c.args.spec.now).names
    (g.R.ByteSource.left c.args.reader.now) (g.R.ByteSource.left c.reads.reader) c.reads.counter
    c.reads.stream (posted_row c.reads.seat) c.outcome-outcome.result c.reads.invariant.read c.reads.invariant.posted
    (record { value = c.outcome-outcome.ensures.value; fits = c.outcome-outcome.ensures.fits }) in
    given.fits
