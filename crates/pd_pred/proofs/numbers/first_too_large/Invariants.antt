-- What the loops of `first_too_large` keep.
use Rattle.std.proofs.Common.{◌≡◌, drop}
use Rattle.pd_pred.specs.Tokens.{lexed_view}
use Rattle.pd_pred.proofs.TooLarge.{too_large_at}
use Rattle.pd_pred.proofs.numbers.first_too_large.Given as goal

abbrev pub invariant-loop-i : goal.invariant-loop-i
invariant-loop-i l = too_large_at (lexed_view (drop l.i l.tokens)) ≡ too_large_at (lexed_view l.tokens)
