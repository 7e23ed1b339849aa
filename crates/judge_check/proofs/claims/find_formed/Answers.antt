-- What is found of a report, if the session is well formed.
use Rattle.std.proofs.Common.{List, map, ap, subst}
use Rattle.def_judgement.specs.Findings.{IsAnswersFinding}
use Rattle.pd_spec.specs.Views.{document_view}
use Rattle.pd_report.specs.Views as views
use Rattle.pd_report.specs.declared.answer.Answer.{Answer}
use Rattle.judge_check.specs.Found.{of_refusal}
use Rattle.judge_check.specs.Views.{verdicts_view}
use Rattle.judge_check.proofs.SessionFindings.{found_of_computation}
use Rattle.judge_check.proofs.claims.find_formed.Goals as goal

pub returns-in_ok-found-in-Judged : goal.returns-in_ok-found-in-Judged
returns-in_ok-found-in-Judged c traces same =
    found_of_computation (document_view c.args.spec.now) traces c.args.messages c.args.computation.now
    (views.report_view c.args.claimed.now) c.in-Judged.processes c.in-Judged.events c.in-Judged.matched
    (map views.answer_view c.in-Judged.answers.items) c.are_counts-good.result
    (verdicts_view c.in_ok-found-in-Judged.found) same
    (ap views.report_view c.in-Judged.is) c.are_counts-good.ensures
    (subst (λ (answers : List Answer).
    IsAnswersFinding (document_view c.args.spec.now) traces (map views.answer_view answers)
    (verdicts_view c.in_ok-found-in-Judged.found)) c.deref.ensures.value
    (c.in_ok-found-in-Judged.ensures traces same))

pub returns-in-Refused : goal.returns-in-Refused
returns-in-Refused c traces same =
    of_refusal (views.refusal_view c.in-Refused.field-0) (ap views.report_view c.in-Refused.is)
