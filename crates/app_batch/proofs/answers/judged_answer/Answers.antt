-- What is written is of the report, with the names of the document's processes.
use Rattle.std.proofs.Common.{List, ap, map, option_map, string_bytes, subst}
use Rattle.std.specs.Global.{Global}
use Rattle.std.specs.Prelude.{String}
use Rattle.def_format.specs.Documents.{Document, Inquiry, inquiry_of}
use Rattle.def_judgement.specs.Headline.{IsTrueReport}
use Rattle.def_judgement.specs.Judgements.{IsJudgement, ended_streams}
use Rattle.app_arguments.specs.ConditionViews.{fail_on_view}
use Rattle.app_batch.specs.Answers.{status_for}
use Rattle.pd_report.specs.Views.{report_view}
use Rattle.pd_spec.specs.Views.{document_view, options_view}
use Rattle.read_sessions.specs.Views.{name_view}
use Rattle.app_batch.proofs.Refused.{line_same}
use Rattle.app_batch.proofs.answers.judged_answer.Goals as goal

pub returns-clause-answer : goal.returns-clause-answer
returns-clause-answer g c =
    let session = c.args.session.now in
    let inquiry : Inquiry = inquiry_of (options_view c.args.asked.now.options.now) (string_bytes session.document) in
    let report = report_view c.in_ok-report.report in
    let read = document_view c.args.spec.now in
    record {
      report = report;
      right = subst (λ (texts : List (String Global)). IsJudgement inquiry (ended_streams (map string_bytes texts))
          report) c.deref.ensures.value (c.in_ok-report.ensures.right inquiry c.requires.document);
      truth = subst (λ (texts : List (String Global)). IsTrueReport inquiry (ended_streams (map string_bytes texts))
          report) c.deref.ensures.value (c.in_ok-report.ensures.truth inquiry c.requires.document);
      names = read.names;
      of_document = λ document is. ap (λ (d : Document). d.names)
          (c.one_document.ensures.single inquiry read document c.requires.document is);
      of_refused = λ fault is.
          absurd (c.one_document.ensures.not_refused inquiry read fault c.requires.document is);
      is_status = c.status_for-status.ensures;
      is_line = line_same c.in_ok-line.line.items (option_map (λ id. id.now) c.id_of.result) (name_view session.id)
          c.names.result.now read.names report
          c.status_for-status.result (status_for (fail_on_view c.args.asked.now.fail_on.now) report)
          c.id_of.ensures c.names.ensures c.status_for-status.ensures c.in_ok-line.ensures;
    }
