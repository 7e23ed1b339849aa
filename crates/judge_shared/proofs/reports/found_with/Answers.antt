-- The report is that of a judgement, or has answers that are right of the run, and what is known of it is right of each
-- run of its order.
use Rattle.pd_report.specs.Views.{report_view}
use Rattle.pd_spec.specs.Views.{document_view}
use Rattle.judge_shared.specs.Sharing.{answers_view}
use Rattle.judge_shared.proofs.RunFacts.{given_results, judged_fresh, run_of}
use Rattle.judge_shared.proofs.reports.found_with.Goals as goal

pub returns : goal.returns
returns c =
    λ options bytes traces streams outcomes is_document joined well has_order. record {
      is_report =
          given_results (document_view c.args.spec.now) streams outcomes traces c.args.computation.now c.args.messages
          (answers_view c.args.answers.items) (report_view c.judged.result) c.requires.beyond joined well
          c.requires.answers c.judged.ensures;
      fresh =
          judged_fresh c.one_document.ensures.single c.one_order.ensures.possibly c.one_order.ensures.definitely options
          bytes (record { order = c.args.order; answers = c.args.kept }) (document_view c.args.spec.now) streams
          outcomes traces c.args.computation.now c.args.messages (answers_view c.args.answers.items)
          (report_view c.judged.result) c.requires.beyond joined well
          (run_of options bytes c.args.order (document_view c.args.spec.now) traces c.args.computation.now
          c.args.messages is_document well c.limits.ensures.some c.limits.ensures.acyclic has_order) c.requires.kept
          c.judged.ensures;
    }
