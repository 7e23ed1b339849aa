-- What the loop keeps: the text of the answers so far, and what is found with them too.
use Rattle.std.proofs.Common.{take}
use Rattle.app_batch.proofs.Rounds.{HasText}
use Rattle.app_batch.proofs.round.round_text.Given as goal

abbrev pub invariant-loop-result : goal.invariant-loop-result
invariant-loop-result l = HasText (take l.result-index l.results) l.fn.found l.text.items l.all
