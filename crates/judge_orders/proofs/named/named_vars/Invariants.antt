-- The variables of the predicates so far are there.
use Rattle.std.proofs.Common.{◌≡◌, All, length, map, take}
use Rattle.def_format.specs.Documents.{NamedPredicate}
use Rattle.def_orders.specs.Orders.{IsOver}
use Rattle.judge_orders.specs.Growth.{SeeNoOther}
use Rattle.judge_orders.specs.Lists.{lists_view}
use Rattle.pd_spec.specs.Named.{named_view}
use Rattle.judge_orders.proofs.named.named_vars.Given as goal

abbrev pub invariant-loop-predicate : goal.invariant-loop-predicate
invariant-loop-predicate l = record {
  many : length l.named.items ≡ l.processes;
  over : All (λ (asked : NamedPredicate). IsOver (lists_view l.named.items) asked.predicate)
      (map named_view (take l.predicate-index l.predicates));
  just : SeeNoOther (lists_view l.named.items) l.processes (map named_view (take l.predicate-index l.predicates));
}
