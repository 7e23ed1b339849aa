-- The counts of processes, events and messages, if the line has them.
use Rattle.std.proofs.Common.{[], sym}
use Rattle.pd_report.specs.Reading.{counts_words, CountsFit}
use Rattle.pd_report.specs.Remaining.{words_left}
use Rattle.pd_report.proofs.LineWords.{session_words, found_line}
use Rattle.pd_report.proofs.session_line.session_line.Goals as goal

pub returns : goal.returns
returns c =
    let line = c.args.line.now in
    found_line (λ counts. counts) counts_words CountsFit [] line (words_left c.new.result)
    (sym c.new.ensures) (λ v h e. session_words line v.0 v.1 v.2 h.0 h.1 h.2 e) (λ v e. e) c.session_counts.result
    c.session_counts.ensures
