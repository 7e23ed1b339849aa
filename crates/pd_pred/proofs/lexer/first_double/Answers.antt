-- The symbol of two bytes that the text begins with, and what follows it.
use Rattle.pd_pred.specs.Tokens.{token_view}
use Rattle.pd_pred.proofs.Symbols.{double_at_prefix, double_boundary}
use Rattle.pd_pred.proofs.lexer.first_double.Goals as goal

pub range_from-requires : goal.range_from-requires
range_from-requires c =
    λ above. double_boundary c.args.text.now c.as_bytes.result.now (token_view c.in_ok-token.token) c.utf8.text
    c.as_bytes.ensures.value c.in-len2-up.len_at_least c.requires.no_letter c.requires.no_digit c.in_ok-token.ensures

pub returns : goal.returns
returns c =
    double_at_prefix c.args.text.now c.as_bytes.result.now c.range_from.result.now (token_view c.in_ok-token.token)
    c.as_bytes.ensures.value c.in-len2-up.len_at_least c.requires.no_letter c.requires.no_digit c.in_ok-token.ensures
    c.range_from.ensures.value
