-- The text of letters and digits.
use Rattle.pd_report.proofs.Pieces.{word_is_text}
use Rattle.pd_report.proofs.words.word_text.Goals as goal

pub unreachable-requires : goal.unreachable-requires
unreachable-requires c = c.in-Err.ensures.cases.0 (word_is_text c.args.word.now c.requires)
