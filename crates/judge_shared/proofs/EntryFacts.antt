-- What is right of an order is right of each that is the same.
use Rattle.std.proofs.Common.{◌≡◌, ℕ, List, get_or, length, set, All, Option, None, Some, ap, ◌∙◌, subst}
use Rattle.std.specs.Prelude.{Vec}
use Rattle.std.specs.Global.{Global}
use Rattle.std.proofs.lemmas.List.Elements.{All-set}
use Rattle.def_format.specs.Documents.{Document, NamedPredicate, Options}
use Rattle.def_model.specs.Predicates.{Recorded}
use Rattle.def_orders.specs.Orders.{IsOrderOf, IsOver}
use Rattle.judge_orders.specs.Growth.{SeeNoOther}
use Rattle.judge_orders.specs.OrderViews.{HasOrder, named_view, processes_view}
use Rattle.judge_orders.specs.declared.order.Order.{Order}
use Rattle.judge_shared.specs.Sharing.{AreRightIfKnown, IsAt, IsEntry, IsRunOf}
use Rattle.judge_shared.specs.declared.orders.Entry.{Entry}
use Rattle.pd_report.specs.declared.answer.Answer as answers

order_of_same : (document : Document) (r : Recorded) (order order' : Order) → named_view order ≡ named_view order'
    → processes_view order ≡ processes_view order' → HasOrder document r order → HasOrder document r order'
order_of_same document r order order' names processes has = record {
  is_order = subst (λ (named : List (List ℕ)). IsOrderOf r named (processes_view order')) names
      (subst (IsOrderOf r (named_view order)) processes has.is_order);
  over = subst (λ (named : List (List ℕ)). All (λ (asked : NamedPredicate). IsOver named asked.predicate)
      document.predicates) names has.over;
  just = subst (λ (named : List (List ℕ)). SeeNoOther named (length r.events) document.predicates) names has.just;
}

run_of_same : (options : Options) (bytes bytes' : List ℕ) (document : Document) (r : Recorded) (order order' : Order)
    → bytes ≡ bytes' → named_view order ≡ named_view order' → processes_view order ≡ processes_view order'
    → IsRunOf options bytes order document r → IsRunOf options bytes' order' document r
run_of_same options bytes bytes' document r order order' same names processes is =
    subst (λ (text : List ℕ). IsRunOf options text order' document r) same (record {
      is_document = is.is_document;
      begins = is.begins;
      some = is.some;
      as_many = is.as_many;
      no_cycle = is.no_cycle;
      has_order = order_of_same document r order order' names processes is.has_order;
    })

right_of_same : (options : Options) (bytes bytes' : List ℕ) (order order' : Order)
    (known : Option (Vec answers.Answer Global)) → bytes ≡ bytes' → named_view order ≡ named_view order'
    → processes_view order ≡ processes_view order' → AreRightIfKnown options bytes' order' known
    → AreRightIfKnown options bytes order known
right_of_same options bytes bytes' order order' None same names processes right = right
right_of_same options bytes bytes' order order' (Some found) same names processes right = λ document recorded is.
    right document recorded (run_of_same options bytes bytes' document recorded order order' same names processes is)

-- An entry with other answers is right, if these are right of its order.
pub set_right : (options : Options) (entries : List Entry) (bytes : List ℕ) (order : Order) (place : ℕ) (d new : Entry)
    → IsAt entries bytes order place → new.document ≡ (get_or entries place d).document
    → new.order ≡ (get_or entries place d).order → AreRightIfKnown options bytes order new.answers
    → All (IsEntry options) entries → All (IsEntry options) (set entries place new)
set_right options entries bytes order place d new at document is right all =
    All-set (IsEntry options) entries place new
    (right_of_same options new.document.items bytes new.order order new.answers
    (ap (λ (text : Vec ℕ Global). text.items) document ∙ at.document d) (ap named_view is ∙ at.named d)
    (ap processes_view is ∙ at.processes d) right) all
