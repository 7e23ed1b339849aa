-- The number that the digits write.
use Rattle.std.proofs.Common.{◌+◌, ◌*◌, ◌-◌, ◌≤◌, get_or, arith}
use Rattle.def_format.specs.Tokens.{number_from}
use Rattle.pd_pred.proofs.Digits.{number_from_bound}
use Rattle.pd_pred.proofs.numbers.number_of.Goals as goal

pub overflow_mul-number : goal.overflow_mul-number
overflow_mul-number c =
    let bound : 10 * c.loop-digit.number + (get_or c.as_bytes-digit-items.result.now c.loop-digit.digit-index 0 - 48)
    ≤ number_from 0 c.args.digits.now =
    number_from_bound c.loop-digit.number c.as_bytes-digit-items.result.now c.loop-digit.digit-index
    (number_from 0 c.args.digits.now) (omega arith) c.loop-digit.invariant in
    omega arith

pub overflow_add-number : goal.overflow_add-number
overflow_add-number c =
    let bound : 10 * c.loop-digit.number + (get_or c.as_bytes-digit-items.result.now c.loop-digit.digit-index 0 - 48)
    ≤ number_from 0 c.args.digits.now =
    number_from_bound c.loop-digit.number c.as_bytes-digit-items.result.now c.loop-digit.digit-index
    (number_from 0 c.args.digits.now) (omega arith) c.loop-digit.invariant in
    omega arith
