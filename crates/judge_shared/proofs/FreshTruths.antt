-- Answers that are right of a run are right of each run of its order; those of its judgement are, if none is unknown.
use Rattle.std.proofs.Common.{◌≡◌, ℕ, List, map, All, sym, ap, subst, ◌∙◌}
use Rattle.std.proofs.lemmas.Option.{IfSome_then}
use Rattle.std.specs.Prelude.{IfSome, Option, Vec, slice_index_or}
use Rattle.std.specs.List.{AllZip}
use Rattle.std.specs.declared.alloc.Global.{Global}
use Rattle.def_model.specs.Order.{HasNoCycle}
use Rattle.def_model.specs.Predicates.{Recorded}
use Rattle.def_format.specs.Documents.{Document, NamedPredicate, Options, inquiry_of}
use Rattle.def_format.specs.Reports.{Answer}
use Rattle.def_judgement.specs.Judgements.{IsAnswered}
use Rattle.def_judgement.specs.OneReport.{OneDocument}
use Rattle.def_orders.specs.Laws.{DefinitelyOfOrder, HaveOneOrder, PossiblyOfOrder}
use Rattle.judge_orders.specs.OrderViews.{named_view, processes_view}
use Rattle.judge_orders.specs.declared.order.Order.{Order}
use Rattle.judge_shared.specs.SharedReports.{AnswersRightly}
use Rattle.judge_shared.specs.Sharing.{AreCopies, AreRight, AreTruths, IsRunOf, answers_view, bare}
use Rattle.judge_shared.proofs.KnownTruths.{HaveSameAnswers, all_answered_right, all_right_too, bare_twice}
use Rattle.pd_report.specs.declared.answer.Answer as answers

-- two runs of one document and one order
one_order : (options : Options) (bytes : List ℕ) (order : Order) (document : Document) (r r' : Recorded)
    → IsRunOf options bytes order document r → IsRunOf options bytes order document r'
    → HaveOneOrder r r' (named_view order) (processes_view order)
one_order options bytes order document r r' first second = record {
  some = first.some;
  as_many = first.as_many ∙ sym second.as_many;
  same_initial = first.begins ∙ sym second.begins;
  no_cycle = first.no_cycle;
  no_cycle' = second.no_cycle;
  first = first.has_order.is_order;
  second = second.has_order.is_order;
}

same_answers : PossiblyOfOrder → DefinitelyOfOrder → (options : Options) (bytes : List ℕ) (order : Order)
    (document : Document) (r r' : Recorded) → IsRunOf options bytes order document r
    → IsRunOf options bytes order document r'
    → All (λ (asked : NamedPredicate). HaveSameAnswers r r' asked.predicate) document.predicates
same_answers possibly definitely options bytes order document r r' first second place d within = (
  possibly r r' (named_view order) (processes_view order) (slice_index_or document.predicates place d).predicate
      have (first.has_order.over place d within),
  definitely r r' (named_view order) (processes_view order) (slice_index_or document.predicates place d).predicate
      have (first.has_order.over place d within),
)
  where
    have : HaveOneOrder r r' (named_view order) (processes_view order)
    have = one_order options bytes order document r r' first second

pub truths_right : OneDocument → PossiblyOfOrder → DefinitelyOfOrder → (options : Options) (bytes : List ℕ)
    (order : Order) (document : Document) (r : Recorded) (found : List Answer)
    → IsRunOf options bytes order document r → AreTruths document r found → AreRight options bytes order found
truths_right one_document possibly definitely options bytes order document r found is_run truths document' r'
    is_run' =
    subst (λ (found : List Answer). AllZip (AnswersRightly r') document'.predicates found) (sym truths.are_bare)
    (subst (λ (of : Document). AllZip (AnswersRightly r') of.predicates found) same
    (all_right_too r r' document.predicates found (truths.right is_run.begins)
    (same_answers possibly definitely options bytes order document r r' is_run other)))
  where
    same : document ≡ document'
    same = one_document (inquiry_of options bytes) document document' is_run.is_document is_run'.is_document

    other : IsRunOf options bytes order document r'
    other = subst (λ (of : Document). IsRunOf options bytes order of r') (sym same) is_run'

-- copies without evidence of the answers of a judgement, if none is unknown
pub copies_truths : (document : Document) (r : Recorded) (found : List Answer)
    (kept : Option (Vec answers.Answer Global)) → HasNoCycle r.events
    → AllZip (IsAnswered document r) document.predicates found → AreCopies kept found
    → IfSome kept (λ copies. AreTruths document r (answers_view copies.items))
copies_truths document r found kept acyclic answered are =
    IfSome_then kept are (λ copies copied. record {
      are_bare = ap (map bare) copied.1 ∙ bare_twice found ∙ sym copied.1;
      right = λ begins. subst (λ (given : List Answer). AllZip (AnswersRightly r) document.predicates given)
          (sym copied.1) (all_answered_right document r acyclic document.predicates found answered copied.0);
    })
