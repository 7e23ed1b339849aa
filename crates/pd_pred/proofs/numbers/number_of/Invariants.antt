-- What the loops of `number_of` keep.
use Rattle.std.proofs.Common.{◌≡◌, drop}
use Rattle.def_format.specs.Tokens.{number_from}
use Rattle.pd_pred.proofs.numbers.number_of.Given as goal

abbrev pub invariant-loop-digit : goal.invariant-loop-digit
invariant-loop-digit l = number_from l.number (drop l.digit-index l.digit-items) ≡ number_from 0 l.digits
