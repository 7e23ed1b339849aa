-- The next word ends where the bytes are cut.
use Rattle.std.proofs.Common.{◌∙◌, ap}
use Rattle.pd_report.specs.Reading.{pieces_if}
use Rattle.pd_report.proofs.Pieces.{cut_words, word_last}
use Rattle.pd_report.proofs.remaining.Words.split_first.Goals as goal

pub returns-in_default : goal.returns-in_default
returns-in_default c = ap (pieces_if c.args.self.between) c.in_default.is

pub returns-in-Some-cut_at : goal.returns-in-Some-cut_at
returns-in-Some-cut_at c =
    ap (pieces_if c.args.self.between) c.in-Some.is
    ∙ cut_words c.args.self.between c.in-Some.bytes.now c.in-Some-cut_at.word.now c.in-Some-cut_at.rest.now
    c.in-Some-cut_at.ensures.0 c.in-Some-cut_at.ensures.1

pub returns-in-None : goal.returns-in-None
returns-in-None c =
    ap (pieces_if c.args.self.between) c.in-Some.is
    ∙ word_last c.args.self.between c.in-Some.bytes.now c.in-None.ensures
