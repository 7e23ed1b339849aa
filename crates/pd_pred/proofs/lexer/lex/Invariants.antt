-- What the loops of `lex` keep.
use Rattle.std.proofs.Common.{length}
use Rattle.std.specs.Str.{IsUtf8}
use Rattle.pd_pred.specs.Tokens.{lexed_view}
use Rattle.pd_pred.proofs.LexedSoFar.{IsLexedTo}
use Rattle.pd_pred.proofs.lexer.lex.Given as goal

abbrev pub invariant-loop-token : goal.invariant-loop-token
invariant-loop-token l = IsLexedTo l.text (lexed_view l.tokens.items) l.rest × IsUtf8 l.rest

abbrev pub decreases-loop-token : goal.decreases-loop-token
decreases-loop-token l = length l.rest
