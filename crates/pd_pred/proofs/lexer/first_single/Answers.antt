-- The symbol of one byte that the text begins with, and what follows it.
use Rattle.pd_pred.specs.Tokens.{token_view}
use Rattle.pd_pred.proofs.Symbols.{single_at_prefix, single_boundary, no_single_at_prefix}
use Rattle.pd_pred.proofs.lexer.first_single.Goals as goal

pub range_from-requires : goal.range_from-requires
range_from-requires c =
    λ above. single_boundary c.args.text.now c.as_bytes.result.now c.in_ok-first.field-0.now
    (token_view c.in_ok-token.token) c.utf8.text c.as_bytes.ensures.value c.in_ok-first.ensures.value
    c.requires.no_letter c.requires.no_digit c.in_ok-token.ensures

pub returns : goal.returns
returns c =
    single_at_prefix c.args.text.now c.as_bytes.result.now c.range_from.result.now c.in_ok-first.field-0.now
    (token_view c.in_ok-token.token) c.as_bytes.ensures.value c.in_ok-first.ensures.value
    c.requires.no_letter c.requires.no_digit c.requires.no_double c.in_ok-token.ensures c.range_from.ensures.value

pub returns-in_err-token : goal.returns-in_err-token
returns-in_err-token c =
    rw c.from_residual-in_err-token.ensures
    (no_single_at_prefix c.args.text.now c.as_bytes.result.now c.in_ok-first.field-0.now c.as_bytes.ensures.value
    c.in_ok-first.ensures.value c.requires.no_letter c.requires.no_digit c.requires.no_double c.in_err-token.ensures)
