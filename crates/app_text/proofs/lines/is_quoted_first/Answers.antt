-- A quote, the name, and a quote.
use Rattle.app_text.proofs.Places.{no_quote, other_name, same_name}
use Rattle.app_text.proofs.lines.is_quoted_first.Goals as goal

pub returns-then-not-is_quote_first : goal.returns-then-not-is_quote_first
returns-then-not-is_quote_first c =
    no_quote c.args.name.now c.args.bytes.now c.is_quote_first.result c.is_quote_first.ensures
    c.if-not-is_quote_first.true

pub returns-then-not-starts_with : goal.returns-then-not-starts_with
returns-then-not-starts_with c =
    other_name c.args.name.now c.args.bytes.now c.bytes_from-rest.result.now c.is_quote_first.result
    c.starts_with.result c.is_quote_first.ensures c.if-not-is_quote_first.false c.bytes_from-rest.ensures
    c.starts_with.ensures.value c.if-not-starts_with.true

pub returns : goal.returns
returns c =
    same_name c.args.name.now c.args.bytes.now c.bytes_from-rest.result.now c.bytes_from.result.now
    c.is_quote_first.result c.starts_with.result c.is_quote_first-2.result c.is_quote_first.ensures
    c.if-not-is_quote_first.false c.bytes_from-rest.ensures c.starts_with.ensures.value c.if-not-starts_with.false
    c.bytes_from.ensures c.is_quote_first-2.ensures
