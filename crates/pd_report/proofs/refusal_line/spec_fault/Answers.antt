-- The word of a document's fault, as the only word.
use Rattle.std.proofs.Common.{◌∙◌, sym}
use Rattle.def_format.proofs.OneReport.{spec_word}
use Rattle.pd_report.proofs.refusal_line.spec_fault.Goals as goal

pub word_text-requires : goal.word_text-requires
word_text-requires c = spec_word c.in-Some.word.now (sym c.is_spec_word.ensures ∙ c.if-not-is_spec_word.false)
