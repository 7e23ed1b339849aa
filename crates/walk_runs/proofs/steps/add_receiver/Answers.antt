-- The bit of a need that is an event of the table.
use Rattle.std.proofs.Common.{arith}
use Rattle.walk_runs.proofs.Receivers.{rows_none, rows_past, rows_set, rows_short}
use Rattle.walk_runs.proofs.steps.add_receiver.Goals as goal
use Rattle.walk_runs.proofs.steps.add_receiver.Goals.{else-number-gt0-via-then-number-gt0+then-q-len+else-number-len, else-number-gt0-via-then-number-gt0+else-q-len, else-number-gt0-via-else-number-gt0}

pub returns-then-number-len : goal.returns-then-number-len
returns-then-number-len c =
    rows_set c.args.receivers.now.items c.args.need c.args.p c.index.result.now c.index_mut.result.now
    c.set_receiver.new.receivers
    (omega (arith, c.if-q-len.true, c.len.ensures)) c.if-number-gt0.true
    (omega (arith, c.if-number-len.true, c.len-then-q-len.ensures)) c.index.ensures c.index_mut.ensures.value
    c.set_receiver.ensures

pub returns-else-number-gt0 : goal.returns-else-number-gt0
returns-else-number-gt0 c =
    elim c.else-number-gt0.branch [
      | else-number-gt0-via-then-number-gt0+then-q-len+else-number-len w ↦
          rows_short c.args.receivers.now.items c.args.need c.args.p w.index.result.now
          (omega (arith, w.if-q-len.true, w.len.ensures)) w.index.ensures
          (omega (arith, w.if-number-len.false, w.len-then-q-len.ensures))
      | else-number-gt0-via-then-number-gt0+else-q-len w ↦
          rows_past c.args.receivers.now.items c.args.need c.args.p (omega (arith, w.if-q-len.false, w.len.ensures))
      | else-number-gt0-via-else-number-gt0 w ↦
          rows_none c.args.receivers.now.items c.args.need c.args.p (λ some. omega (arith, w.if-number-gt0.false))
    ]
