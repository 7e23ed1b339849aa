-- Whether the digits, of which there may be any number, write a number over the limit.
use Rattle.std.proofs.Common.{◌+◌, ◌*◌, ◌-◌, ◌≤◌, get_or, arith}
use Rattle.std.proofs.lemmas.Bool.Decides.{nat_tests}
use Rattle.def_format.specs.Tokens.{number_from}
use Rattle.pd_pred.proofs.Digits.{number_from_bound}
use Rattle.pd_pred.proofs.numbers.exceeds.Goals as goal

pub returns-then-number-from : goal.returns-then-number-from
returns-then-number-from c =
    let bound : 10 * c.loop-digit.number + (get_or c.as_bytes-digit-items.result.now c.loop-digit.digit-index 0 - 48)
    ≤ number_from 0 c.args.digits.now =
    number_from_bound c.loop-digit.number c.as_bytes-digit-items.result.now c.loop-digit.digit-index
    (number_from 0 c.args.digits.now) (omega arith) c.loop-digit.invariant.0 in
    grind (arith, nat_tests)
