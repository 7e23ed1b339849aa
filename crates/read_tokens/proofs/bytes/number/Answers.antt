-- The number at the start.
use Rattle.read_tokens.proofs.Numbers.{number_after_minus, number_of_digits}
use Rattle.read_tokens.proofs.bytes.number.Goals as goal

pub returns-else-value-eq0 : goal.returns-else-value-eq0
returns-else-value-eq0 c =
    let found = c.in_ok-value-in-Some in
    number_after_minus c.args.bytes.now c.in-Some.digits.now found.after.now found.value c.in-Some.ensures found.ensures
    c.if-value-eq0.false

pub returns-in_ok-value-in-None : goal.returns-in_ok-value-in-None
returns-in_ok-value-in-None c =
    let found = c.in_ok-value-in-None in number_of_digits c.args.bytes.now found.after.now found.value found.ensures
