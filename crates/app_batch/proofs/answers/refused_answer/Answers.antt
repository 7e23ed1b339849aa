-- The refusal of a document is the report of any streams.
use Rattle.std.proofs.Common.{[], map, option_map, refl, string_bytes}
use Rattle.def_format.specs.Documents.{Inquiry, inquiry_of}
use Rattle.def_format.specs.Reports.{Refused}
use Rattle.def_judgement.specs.Judgements.{ended_streams}
use Rattle.app_arguments.specs.ConditionViews.{fail_on_view}
use Rattle.app_batch.specs.Answers.{status_for}
use Rattle.judge_session.proofs.DocumentRefusals.{refused_judged}
use Rattle.pd_report.specs.Views.{refusal_view}
use Rattle.pd_spec.specs.Views.{options_view}
use Rattle.read_sessions.specs.Views.{name_view}
use Rattle.app_batch.proofs.Refused.{line_same, refused_for}
use Rattle.app_batch.proofs.answers.refused_answer.Goals as goal

pub returns-clause-answer : goal.returns-clause-answer
returns-clause-answer c =
    let session = c.args.session.now in
    let inquiry : Inquiry = inquiry_of (options_view c.args.asked.now.options.now) (string_bytes session.document) in
    let streams = ended_streams (map string_bytes session.streams.items) in
    let refusal = refusal_view c.in_ok-of_document.field-0 in
    let refused = refused_for inquiry c.args.fault refusal c.requires c.in_ok-of_document.ensures in
    let right = refused_judged inquiry streams c.args.fault refusal c.requires c.in_ok-of_document.ensures in
    record {
      report = Refused refusal;
      right = right;
      truth = c.judgement_is_true.ensures inquiry streams (Refused refusal) right;
      names = [];
      of_document = λ document is.
          absurd (c.one_document.ensures.not_refused inquiry document refused.0 is refused.1);
      of_refused = λ fault is. refl;
      is_status = c.status_for-status.ensures;
      is_line = line_same c.in_ok-line.line.items (option_map (λ id. id.now) c.id_of.result) (name_view session.id) []
          [] (Refused refusal)
          c.status_for-status.result (status_for (fail_on_view c.args.asked.now.fail_on.now) (Refused refusal))
          c.id_of.ensures refl c.status_for-status.ensures c.in_ok-line.ensures;
    }

pub returns-clause-named : goal.returns-clause-named
returns-clause-named c = λ document is.
    let inquiry : Inquiry =
    inquiry_of (options_view c.args.asked.now.options.now) (string_bytes c.args.session.now.document) in
    let refused =
    refused_for inquiry c.args.fault (refusal_view c.in_ok-of_document.field-0) c.requires
    c.in_ok-of_document.ensures in
    absurd (c.one_document.ensures.not_refused inquiry document refused.0 is refused.1)
