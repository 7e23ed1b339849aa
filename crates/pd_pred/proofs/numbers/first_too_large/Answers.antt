-- The first byte of the first number that is too large, counted from 1.
use Rattle.std.proofs.Common.{arith}
use Rattle.std.proofs.lemmas.List.{take_rest}
use Rattle.pd_pred.specs.Tokens.{lexed_view}
use Rattle.pd_pred.proofs.TooLarge.{fit_where_none, first_where_some, found_at, none_found}
use Rattle.pd_pred.proofs.numbers.first_too_large.Goals as goal

pub returns-then-is_too_large : goal.returns-then-is_too_large
returns-then-is_too_large c =
    first_where_some (lexed_view c.args.tokens.now) _
    (found_at c.args.tokens.now c.loop-i.i _ (omega arith) c.loop-i.invariant
    (rw take_rest at c.if-is_too_large.ensures))

pub returns : goal.returns
returns c =
    fit_where_none (lexed_view c.args.tokens.now)
    (none_found c.args.tokens.now c.loop-i.i (omega arith) c.loop-i.invariant)
