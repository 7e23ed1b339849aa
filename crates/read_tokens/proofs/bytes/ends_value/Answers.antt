-- A comma or a closing brace comes first.
use Rattle.std.proofs.Common.{inl, inr}
use Rattle.read_tokens.proofs.bytes.ends_value.Goals as goal

pub returns-in-Some : goal.returns-in-Some
returns-in-Some c = λ _. record { rest = c.in-Some._following.now; first = inl c.in-Some.ensures }

pub returns-in-Some-after_byte : goal.returns-in-Some-after_byte
returns-in-Some-after_byte c =
    λ _. record { rest = c.in-Some-after_byte._following.now; first = inr c.in-Some-after_byte.ensures }
