-- The tokens that some bytes give, by what they follow.
use Rattle.std.specs.Prelude.{ℕ, List}
use Rattle.json.specs.Token.{Token}
use Rattle.json.specs.Lex.{fresh, after_comma, after_value, between, lex, punctuate}
use Rattle.json.specs.Lex as json
use Rattle.read_tokens.specs.declared.tokens.Place.{Place}
use Rattle.read_tokens.specs.declared.tokens.Place.TheVariants.{Start, Comma, Value}

abbrev pub place_view : Place → json.Place
place_view Start = fresh
place_view Comma = after_comma
place_view Value = after_value

abbrev pub tokens_at : Place → List ℕ → List Token
tokens_at place bytes = punctuate (place_view place) (lex between bytes)
