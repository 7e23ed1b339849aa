-- The answers that are known of the order are those of the run.
use Rattle.std.proofs.Common.{ℕ, List, subst}
use Rattle.def_format.specs.Documents.{Options}
use Rattle.pd_report.specs.Views.{report_view}
use Rattle.judge_shared.specs.Sharing.{AreRight, AreSound, answers_view}
use Rattle.judge_shared.proofs.SharedAnswers.{bare_copies, shared_right}
use Rattle.judge_shared.proofs.finals.unknown_report.Goals as goal

pub returns-in_ok-answers-in-Some : goal.returns-in_ok-answers-in-Some
returns-in_ok-answers-in-Some c =
    λ options of streams outcomes sound is_report fresh. (
      shared_right options c.args.document.items of streams outcomes (report_view c.args.report)
          (report_view c.with_answers.result) _ (answers_view c.in-Some.found.now)
          (answers_view c.in_ok-answers-in-Some.answers.items) (known options sound)
          (bare_copies (answers_view c.in_ok-answers-in-Some.answers.items) c.in-Some.found.now
          c.in_ok-answers-in-Some.ensures) c.with_answers.ensures fresh,
      sound,
    )
  where
    known : (options : Options) → AreSound options c.args.orders.now
        → AreRight options c.args.document.items c.args.order (answers_view c.in-Some.found.now)
    known options sound =
        subst (λ (bytes : List ℕ). AreRight options bytes c.args.order (answers_view c.in-Some.found.now))
        c.deref.ensures.value ((rw c.in-Some.is at c.find.ensures) options sound)
