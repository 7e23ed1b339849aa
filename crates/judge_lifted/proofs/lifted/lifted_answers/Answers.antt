-- The answers of the reduction are right of the run.
use Rattle.std.proofs.Common.{◌≡◌, List, map, sym, subst}
use Rattle.std.specs.List.{AllZip}
use Rattle.def_model.specs.Predicates.{Recorded}
use Rattle.def_format.specs.Documents.{Document, NamedPredicate}
use Rattle.judge_lifted.specs.Truths.{IsTruthOf}
use Rattle.judge_lifted.proofs.RunTruths.{reduced_truths}
use Rattle.judge_reduced.specs.Reductions.{reduced_view}
use Rattle.pd_clock.specs.Computations.{recorded_view}
use Rattle.pd_report.specs.Views.{answer_view}
use Rattle.pd_report.specs.declared.answer.Answer.{Answer}
use Rattle.pd_spec.specs.Views.{document_view}
use Rattle.read_traces.specs.Views.{computation_view}
use Rattle.read_traces.specs.declared.event.Trace.{Trace}
use Rattle.judge_lifted.proofs.lifted.lifted_answers.Goals as goal

pub all_lifted-requires : goal.all_lifted-requires
all_lifted-requires g c =
    let document : Document = document_view c.args.spec.now in
    let r : Recorded = c.args.computation.now in
    let traces : List Trace = c.in-Some.traces.items in
    let made : Recorded = recorded_view document.initial c.deref.result.now in
    let is : _ = rw c.in-Some.is at c.in_ok-traces.ensures.made in
    let answered : _ = rw c.in-Some-2.is at c.in_ok-answers.ensures in
    let begins : made ≡ reduced_view r traces =
    (λ i. record {
      initial = sym c.requires.initial i;
      events = computation_view (c.deref.ensures.value i);
    }) in
    subst (λ (asked : List NamedPredicate). AllZip (IsTruthOf r) asked (map answer_view c.deref-4.result.now))
    (sym c.predicates.ensures)
    (subst (λ (answers : List Answer). AllZip (IsTruthOf r) document.predicates (map answer_view answers))
    (sym c.deref-4.ensures.value)
    (reduced_truths c.answers.ensures.possibly c.answers.ensures.definitely document r made traces
    (map answer_view c.in-Some-2.answers.items) c.limits.ensures.acyclic is begins answered))
