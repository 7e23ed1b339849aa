-- How an operand begins.
use Rattle.std.specs.Prelude.{List, codes}
use Rattle.def_format.specs.Tokens.{Word, OpenParen}
use Rattle.def_format.specs.Grammar.{word_not}
use Rattle.def_format.specs.PrefixWalk.{AtOperand, AtTerm, OnLeft}
use Rattle.pd_pred.specs.Building.{tokens_view, Follows, GoesOn, without_minus}
use Rattle.pd_pred.specs.declared.token.Placed.{Placed}
use Rattle.pd_pred.specs.declared.build.Beginning.{Beginning}
use Rattle.pd_pred.specs.declared.build.Beginning.TheVariants.{Paren, Negation, Truth, Falsehood, Comparison}

-- the tokens begin like this, and go on with the rest; a comparison begins with a sum
abbrev pub BeginsAs : List Placed → Beginning → Type 0
BeginsAs tokens (Paren rest) = Follows OpenParen tokens rest.now
BeginsAs tokens (Negation rest) = Follows word_not tokens rest.now
BeginsAs tokens (Truth rest) = Follows (Word (codes "true")) tokens rest.now
BeginsAs tokens (Falsehood rest) = Follows (Word (codes "false")) tokens rest.now
BeginsAs tokens Comparison = GoesOn AtOperand (tokens_view tokens) (AtTerm OnLeft) (without_minus (tokens_view tokens))
