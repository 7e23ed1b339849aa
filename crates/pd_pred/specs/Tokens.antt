-- The tokens that the program's tokens stand for.
use Rattle.std.specs.Prelude.{List, map}
use Rattle.def_format.specs.Tokens as format
use Rattle.def_format.specs.Tokens.{number_from}
use Rattle.pd_pred.specs.declared.token.Token.{Token}
use Rattle.pd_pred.specs.declared.token.Token.TheVariants.{Word, Digits, OpenParen, CloseParen, Relates, Signs, Star, Dot, End}
use Rattle.pd_pred.specs.declared.token.Placed.{Placed}
use Rattle.pd_pred.specs.Trees.{sign_view, comparison_view}

abbrev pub token_view : Token → format.Token
token_view (Word word) = format.Word word.now
token_view (Digits digits) = format.Digits (number_from 0 digits.now)
token_view OpenParen = format.OpenParen
token_view CloseParen = format.CloseParen
token_view (Relates comparison) = format.Relates (comparison_view comparison)
token_view (Signs sign) = format.Signs (sign_view sign)
token_view Star = format.Star
token_view Dot = format.Dot
token_view End = format.End

abbrev pub placed_view : Placed → format.Placed
placed_view t = record { at = t.at; token = token_view t.token }

abbrev pub lexed_view : List Placed → List format.Placed
lexed_view tokens = map placed_view tokens
