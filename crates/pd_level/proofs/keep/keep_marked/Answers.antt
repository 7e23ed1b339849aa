-- What is kept so far stands first.
use Rattle.std.proofs.Common.{◌≤◌, ◌∙◌, arith}
use Rattle.pd_level.proofs.Kept.{none_read, keep_one, pass_one, all_read}
use Rattle.pd_level.proofs.keep.keep_marked.Goals as goal
use Rattle.pd_level.proofs.keep.keep_marked.Goals.{then-marks-i, else-marks-i}

pub loop-i-init : goal.loop-i-init
loop-i-init g c = none_read c.args.wanted c.args.marks.now c.args.keys.now

pub copy_within-requires-clause-to : goal.copy_within-requires-clause-to
copy_within-requires-clause-to g c =
    let within : c.loop-i.kept ≤ c.loop-i.i = c.loop-i.invariant.within in
    omega (arith, c.loop-i.invariant.same, c.requires)

pub overflow_add-kept : goal.overflow_add-kept
overflow_add-kept g c =
    let within : c.loop-i.kept ≤ c.loop-i.i = c.loop-i.invariant.within in
    omega (arith)

pub loop-i-preserved : goal.loop-i-preserved
loop-i-preserved g c =
    elim c.if-marks-i.branch [
      | then-marks-i w ↦
          rw (w.keys-is, w.kept-is, w.copy_within.ensures) (keep_one c.args.wanted c.args.marks.now c.args.keys.now
          c.loop-i.keys c.loop-i.i c.loop-i.kept c.requires c.loop-i-test.true w.if-marks-i.true
          c.loop-i.invariant)
      | else-marks-i w ↦
          rw (w.keys-is, w.kept-is) (pass_one c.args.wanted c.args.marks.now c.args.keys.now c.loop-i.keys
          c.loop-i.i c.loop-i.kept c.requires c.loop-i-test.true w.if-marks-i.false c.loop-i.invariant)
    ]

pub returns : goal.returns
returns g c =
    c.truncate.ensures ∙ all_read c.args.wanted c.args.marks.now c.args.keys.now c.loop-i.keys
    c.loop-i.i c.loop-i.kept c.loop-i-test.false c.loop-i.invariant
