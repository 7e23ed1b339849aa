-- The answer for one predicate.
use Rattle.std.proofs.Common.{rules, ◌≡◌, ◌∙◌, List, length, ap, sym, subst}
use Rattle.def_judgement.specs.Judgements.{printed_definitely}
use Rattle.def_format.specs.Names.{ProcessNames}
use Rattle.pd_pred.specs.Views.{predicate_view}
use Rattle.walk_back.specs.Answers.{definitely_answer_view, possibly_answer_view}
use Rattle.pd_report.specs.Views as views
use Rattle.pd_spec.specs.Views.{document_view}
use Rattle.pd_engine.proofs.PrintedPaths.{answer_reported}
use Rattle.pd_engine.proofs.answers.answer.Goals as goal

pub definitely_for_report-requires : goal.definitely_for_report-requires
definitely_for_report-requires c =
    answer_reported (document_view c.args.spec.now) c.args._computation.now (predicate_view c.args.asked.now.pred)
    (length c.names.result.now) c.args.definitely.now (c.requires.names ∙ ap length (sym c.names.ensures))
    c.requires.definitely

pub returns : goal.returns
returns c = record {
  name = search rules;
  possibly = possibly_answer_view c.args.possibly.now;
  possibly_reported = c.in_ok-possibly_for_report.ensures;
  possibly_right = c.requires.possibly;
  definitely = definitely_answer_view c.args.definitely.now;
  definitely_reported =
      subst (λ (names : List ProcessNames). views.definitely_view c.in_ok-definitely_for_report.field-0
      ≡ printed_definitely names (definitely_answer_view c.args.definitely.now)) c.names.ensures
      c.in_ok-definitely_for_report.ensures;
  definitely_right = c.requires.definitely;
}
