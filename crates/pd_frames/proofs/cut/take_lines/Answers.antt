-- Takes the lines that end off a piece.
use Rattle.std.proofs.Common.{refl, arith}
use Rattle.pd_frames.specs.Views.{lines_view, frame_fault_view}
use Rattle.pd_frames.proofs.Steps.{begin, next_line, faulty_line, any_tail, if_none, sound_tail}
use Rattle.pd_frames.proofs.cut.take_lines.Goals as goal

pub lines-init : goal.lines-init
lines-init c = record {
  fits = c.requires;
  kept = λ _. refl;
  cuts = λ bytes o. rw c.new-lines.ensures.items (begin bytes c.args.piece.now c.args.kept.now c.args.line c.args.total
      o);
}

pub returns-in-Some-ended_fault-clause-batch : goal.returns-in-Some-ended_fault-clause-batch
returns-in-Some-ended_fault-clause-batch c = λ bytes o.
    let split = c.in-Some.ensures in
    faulty_line bytes c.args.piece.now c.lines.kept.now c.lines.line c.lines.total c.lines.tail.now c.in-Some.part.now
    c.in-Some.following.now (lines_view c.lines.lines.items) (frame_fault_view c.in-Some-ended_fault.fault)
    (c.lines.invariant.cuts bytes o) split.0 split.1 c.in-Some-ended_fault.ensures.faulty

pub lines-preserved : goal.lines-preserved
lines-preserved c =
    let split = c.in-Some.ensures in
    let fits = c.in_default-ended_fault.ensures.fits in record {
      fits = record { rest_fits = omega arith; total_fits = omega (arith, fits); line_fits = omega arith };
      kept = λ none. absurd (omega arith);
      cuts = λ bytes o. rw c.in_ok-push_line.ensures
          (next_line c.faults_of_parts.ensures.sound c.lines_grow.ensures.part c.lines_grow.ensures.feed bytes
          c.args.piece.now c.lines.kept.now c.lines.line c.lines.total c.lines.tail.now c.in-Some.part.now
          c.in-Some.following.now (lines_view c.lines.lines.items) (c.lines.invariant.cuts bytes o) split.0 split.1
          fits.0 fits.1);
    }

pub returns-clause-batch : goal.returns-clause-batch
returns-clause-batch c = λ bytes o.
    any_tail c.faults_of_parts.ensures.sound c.lines_grow.ensures.part bytes c.args.piece.now c.lines.kept.now
    c.lines.line c.lines.total c.lines.tail.now (lines_view c.lines.lines.items) (c.lines.invariant.cuts bytes o)
    c.in_default.ensures c.part_fault-fault.result c.part_fault-fault.ensures.fits c.part_fault-fault.ensures.faulty

pub returns-clause-goes_on : goal.returns-clause-goes_on
returns-clause-goes_on c =
    if_none c.part_fault-fault.result c.part_fault-fault.ensures.fits (λ fits bytes o.
    (sound_tail c.faults_of_parts.ensures.sound c.lines_grow.ensures.part bytes c.args.piece.now c.lines.kept.now
    c.lines.line c.lines.total c.lines.tail.now (lines_view c.lines.lines.items) (c.lines.invariant.cuts bytes o)
    c.in_default.ensures fits.0 fits.1).now_open)
