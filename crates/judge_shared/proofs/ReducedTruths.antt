-- Answers that are right of the reduction of a run are right of the run.
use Rattle.std.proofs.Common.{List, All, refl, sym, subst}
use Rattle.std.specs.List.{AllZip}
use Rattle.def_model.specs.Order.{HasNoCycle}
use Rattle.def_model.specs.Predicates.{Initial, Recorded}
use Rattle.def_format.specs.Documents.{Document, NamedPredicate}
use Rattle.def_format.specs.Reports.{Answer}
use Rattle.judge_reduced.specs.Laws.{DefinitelyOfReducedRun, PossiblyOfReducedRun}
use Rattle.judge_reduced.specs.Reductions.{IsReductionOf, reduced_view}
use Rattle.judge_shared.specs.SharedReports.{AnswersRightly}
use Rattle.judge_shared.specs.Sharing.{AreTruths}
use Rattle.judge_shared.proofs.KnownTruths.{HaveSameAnswers, all_right_too}
use Rattle.pd_clock.specs.Computations.{recorded_view}
use Rattle.read_traces.specs.declared.event.Trace.{Trace}

same_answers : PossiblyOfReducedRun → DefinitelyOfReducedRun → (document : Document) (r : Recorded)
    (traces : List Trace) → HasNoCycle r.events → IsReductionOf document r traces
    → All (λ (asked : NamedPredicate). HaveSameAnswers (reduced_view r traces) r asked.predicate) document.predicates
same_answers possibly definitely document r traces acyclic is place d within =
    let of_possibly : _ = possibly document r traces acyclic is place d within in
    let of_definitely : _ = definitely document r traces acyclic is place d within in
    ((of_possibly.1, of_possibly.0), (of_definitely.1, of_definitely.0))

pub reduced_truths : PossiblyOfReducedRun → DefinitelyOfReducedRun → (document : Document) (r : Recorded)
    (traces : List Trace) (found : List Answer) → HasNoCycle r.events → IsReductionOf document r traces
    → AreTruths document (recorded_view document.initial traces) found → AreTruths document r found
reduced_truths possibly definitely document r traces found acyclic is truths = record {
  are_bare = truths.are_bare;
  right = λ begins. all_right_too (reduced_view r traces) r document.predicates found
      (subst (λ (initial : Initial). AllZip (AnswersRightly (recorded_view initial traces)) document.predicates found)
      (sym begins) (truths.right refl)) (same_answers possibly definitely document r traces acyclic is);
}
