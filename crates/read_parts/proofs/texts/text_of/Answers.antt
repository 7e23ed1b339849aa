-- Bytes are a text or not.
use Rattle.std.proofs.lemmas.Str.{IsUtf8-from_is_utf8, is_utf8-from_IsUtf8}
use Rattle.read_parts.proofs.TextLists.{is_no_text, is_text}
use Rattle.read_parts.proofs.texts.text_of.Goals as goal

pub returns-in_ok-from_str-in-Ok : goal.returns-in_ok-from_str-in-Ok
returns-in_ok-from_str-in-Ok c =
    is_text _ _ _ c.in_ok-from_str-in-Ok.ensures.ok c.in-Ok.ensures.cases.0
    (is_utf8-from_IsUtf8 c.args.bytes.now c.in-Ok.ensures.cases.1)

pub returns-in-Err : goal.returns-in-Err
returns-in-Err c =
    is_no_text c.args.bytes.now (λ is. c.in-Err.ensures.cases.0 (IsUtf8-from_is_utf8 c.args.bytes.now is))
