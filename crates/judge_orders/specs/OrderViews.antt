-- What the order of a run stands for.
use Rattle.std.specs.Prelude.{ℕ, ◌<◌, List, [], All, length, map, slice_index_or}
use Rattle.def_format.specs.Documents.{Document, NamedPredicate}
use Rattle.def_model.specs.Predicates.{Recorded}
use Rattle.def_orders.specs.Orders as orders
use Rattle.def_orders.specs.Orders.{IsOrderOf, IsOver, IsSeenOf}
use Rattle.judge_orders.specs.Growth.{SeeNoOther}
use Rattle.judge_orders.specs.Lists.{lists_view}
use Rattle.judge_orders.specs.declared.order.Order.{Order}
use Rattle.judge_orders.specs.declared.order.ProcessOrder.{ProcessOrder}

abbrev pub process_view : ProcessOrder → orders.ProcessOrder
process_view process = record { values = process.values.items; known = process.known.items }

-- what is seen of the processes
abbrev pub processes_view : Order → List orders.ProcessOrder
processes_view order = map process_view order.processes.items

-- the variables that are seen
abbrev pub named_view : Order → List (List ℕ)
named_view order = lists_view order.named.items

-- this is seen of each of the first k processes
abbrev pub AllSeen : Recorded → (named numbers : List (List ℕ)) → List orders.ProcessOrder → ℕ → Type 0
AllSeen r named numbers seen k =
    (p : ℕ) (of : orders.ProcessOrder) → p < k
    → IsSeenOf r (slice_index_or named p []) numbers p (slice_index_or seen p of)

-- It is the order of what was recorded, by the variables that the document's predicates name, and by no others.
pub record HasOrder (document : Document) (r : Recorded) (order : Order) : Type 0 where
  pub is_order : IsOrderOf r (named_view order) (processes_view order)
  pub over : All (λ (asked : NamedPredicate). IsOver (named_view order) asked.predicate) document.predicates
  pub just : SeeNoOther (named_view order) (length r.events) document.predicates
