-- The order is made of what is seen of each process.
use Rattle.std.proofs.Common.{List, ℕ, All, length, map, sym, ◌∙◌, subst}
use Rattle.std.specs.Prelude.{Vec}
use Rattle.std.specs.Global.{Global}
use Rattle.std.proofs.lemmas.List.{length-map}
use Rattle.def_format.specs.Documents.{NamedPredicate}
use Rattle.def_orders.specs.Orders.{IsOver}
use Rattle.pd_spec.specs.Views.{document_view}
use Rattle.judge_orders.specs.KeptEvents.{AllAscend, AllKept}
use Rattle.judge_orders.specs.Growth.{SeeNoOther}
use Rattle.judge_orders.specs.Lists.{lists_view}
use Rattle.judge_orders.specs.OrderViews.{AllSeen, process_view}
use Rattle.judge_orders.proofs.Keeping.{all_ascend}
use Rattle.judge_orders.proofs.Places.{lists_length}
use Rattle.judge_orders.proofs.order.order_of.Goals as goal

pub columns-requires-clause-ascend : goal.columns-requires-clause-ascend
columns-requires-clause-ascend c =
    subst (λ (numbers : List (Vec ℕ Global)). AllAscend (lists_view numbers)) (sym c.deref-2.ensures.value)
    (all_ascend c.args.computation.now (lists_view c.deref.result.now) (lists_view c.in_ok-numbers.numbers.items)
    (lists_length c.in_ok-numbers.numbers.items ∙ c.in_ok-numbers.ensures.one_each) c.in_ok-numbers.ensures.kept)

pub process_orders-requires-clause-kept : goal.process_orders-requires-clause-kept
process_orders-requires-clause-kept c =
    let r = c.args.computation.now in
    subst (λ (named : List (Vec ℕ Global)).
    AllKept r (lists_view named) (lists_view c.deref-4.result.now) (length r.events))
    (c.deref.ensures.value ∙ sym c.deref-3.ensures.value)
    (subst (λ (numbers : List (Vec ℕ Global)).
    AllKept r (lists_view c.deref.result.now) (lists_view numbers) (length r.events)) (sym c.deref-4.ensures.value)
    c.in_ok-numbers.ensures.kept)

pub returns : goal.returns
returns c =
    let r = c.args.computation.now in
    let seen = map process_view c.in_ok-processes.processes.items in
    record {
      order = record {
        is_order = record {
          numbers = lists_view c.in_ok-numbers.numbers.items;
          all_named = lists_length c.in_ok-named.named.items ∙ (c.in_ok-named.ensures.one_each ∙ c.processes.ensures);
          all_kept = lists_length c.in_ok-numbers.numbers.items ∙ c.in_ok-numbers.ensures.one_each;
          all_seen = length-map c.in_ok-processes.processes.items process_view ∙ c.in_ok-processes.ensures.one_each;
          each = subst (λ (named : List (Vec ℕ Global)).
              AllSeen r (lists_view named) (lists_view c.in_ok-numbers.numbers.items) seen (length r.events))
              c.deref-3.ensures.value
              (subst (λ (numbers : List (Vec ℕ Global)).
              AllSeen r (lists_view c.deref-3.result.now) (lists_view numbers) seen (length r.events))
              c.deref-4.ensures.value c.in_ok-processes.ensures.seen);
        };
        over = subst
            (All (λ (asked : NamedPredicate). IsOver (lists_view c.in_ok-named.named.items) asked.predicate))
            c.predicates.ensures c.in_ok-named.ensures.over;
        just = subst (λ (k : ℕ). SeeNoOther (lists_view c.in_ok-named.named.items) k
            (document_view c.args.spec.now).predicates) c.processes.ensures
            (subst (SeeNoOther (lists_view c.in_ok-named.named.items) c.processes.result) c.predicates.ensures
            c.in_ok-named.ensures.just);
      };
    }
