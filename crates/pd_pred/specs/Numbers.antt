-- Which number among the tokens is too large.
use Rattle.std.specs.Prelude.{ℕ, List}
use Rattle.def_format.specs.Tokens.{Token, Placed, placed}
use Rattle.def_format.specs.PredicateTexts.{IsTooLarge}
use Rattle.def_format.specs.Lists.{IsFirst}

-- the first of these tokens that is a number too large for its place begins at this byte
pub record IsFirstTooLarge (tokens : List Placed) (at : ℕ) : Type 0 where
  pub before : List Placed
  pub token : Token
  pub after : List Placed
  pub first : IsFirst IsTooLarge tokens before (placed at token) after
