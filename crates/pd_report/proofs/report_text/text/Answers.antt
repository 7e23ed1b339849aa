-- A report's text.
use Rattle.std.proofs.Common.{[], ◌∷◌, ◌++◌, sym, ap, ◌∙◌}
use Rattle.std.specs.Prelude.{codes}
use Rattle.def_format.specs.Reports.{refusal_words, report_text, spaced}
use Rattle.pd_report.specs.Views.{answers_text, refusal_view, report_view, session_text}
use Rattle.pd_report.proofs.Texts.{judged_text, refused_text, two_written}
use Rattle.pd_report.proofs.report_text.text.Goals as goal
use Rattle.pd_report.proofs.report_text.text.Goals.{in-Judged+in_ok-push_session-in-Judged+in_ok-push_answers-in-Judged, in-Refused+in_ok-push_bytes-in-Refused+in_ok-push_refusal-in-Refused+in_ok-push_bytes-in-Refused-2}

pub returns : goal.returns
returns c = elim c.match-report.branch [
  | in-Judged+in_ok-push_session-in-Judged+in_ok-push_answers-in-Judged w ↦
      let counts = w.in-Judged in
      let session = session_text counts.processes counts.events counts.messages in
      ap (λ out. out.items) w.out-is
      ∙ two_written c.new-out.result.items w.push_session.new.out.items w.push_answers.new.out.items session
      (answers_text w.deref.result.now) c.new-out.ensures.items w.in_ok-push_session-in-Judged.ensures
      w.in_ok-push_answers-in-Judged.ensures
      ∙ ap (λ answers. session ++ answers_text answers) w.deref.ensures.value
      ∙ sym (judged_text counts.processes counts.events counts.messages counts.answers.items)
      ∙ ap (λ report. report_text (report_view report)) (sym counts.is)
  | in-Refused+in_ok-push_bytes-in-Refused+in_ok-push_refusal-in-Refused+in_ok-push_bytes-in-Refused-2 w ↦
      let refusal = refusal_view w.in-Refused.refusal in
      ap (λ out. out.items) w.out-is
      ∙ w.in_ok-push_bytes-in-Refused-2.ensures.ok
      ∙ ap (λ line. line ++ 10 ∷ []) (two_written c.new-out.result.items w.push_bytes.new.out.items
      w.push_refusal.new.out.items (codes "refused ") (spaced (refusal_words refusal)) c.new-out.ensures.items
      w.in_ok-push_bytes-in-Refused.ensures.ok w.in_ok-push_refusal-in-Refused.ensures)
      ∙ sym (refused_text refusal)
      ∙ ap (λ report. report_text (report_view report)) (sym w.in-Refused.is)
]
