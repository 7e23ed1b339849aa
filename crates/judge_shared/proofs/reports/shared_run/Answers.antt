-- The answers that are known of the order are right of the run.
use Rattle.pd_report.specs.Views.{report_view}
use Rattle.pd_spec.specs.Views.{document_view}
use Rattle.judge_shared.specs.Sharing.{answers_view}
use Rattle.judge_shared.proofs.RunFacts.{known_results, run_of}
use Rattle.judge_shared.proofs.SharedAnswers.{bare_copies}
use Rattle.judge_shared.proofs.reports.shared_run.Goals as goal

pub returns : goal.returns
returns c =
    λ options bytes order traces streams outcomes is_document joined well has_order right. record {
      is_report =
          known_results options bytes order (document_view c.args.spec.now) streams outcomes traces
          c.args.computation.now c.args.messages (answers_view c.args.known.now)
          (answers_view c.in_ok-answers.answers.items) (report_view c.judged.result) c.requires.beyond
          joined well
          (run_of options bytes order (document_view c.args.spec.now) traces c.args.computation.now c.args.messages
          is_document well c.limits.ensures.some c.limits.ensures.acyclic has_order) right
          (bare_copies (answers_view c.in_ok-answers.answers.items) c.args.known.now c.in_ok-answers.ensures)
          c.judged.ensures;
      fresh = tt;
    }
