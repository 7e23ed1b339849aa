-- The reduction is made of the kept events.
use Rattle.std.proofs.Common.{◌≡◌, List, ℕ, All, length, sym, ◌∙◌, subst}
use Rattle.std.specs.Prelude.{Vec}
use Rattle.std.specs.Global.{Global}
use Rattle.def_format.specs.Documents.{NamedPredicate}
use Rattle.def_orders.specs.Orders.{IsOver}
use Rattle.pd_spec.specs.Views.{document_view}
use Rattle.read_traces.specs.declared.event.Trace.{Trace}
use Rattle.judge_orders.specs.KeptEvents.{AllAscend, AllKept}
use Rattle.judge_orders.specs.Lists.{lists_view}
use Rattle.judge_orders.specs.Growth.{Grows, SeeNoOther}
use Rattle.judge_reduced.specs.Bounds.{AreFew, AreTheirVars, var_numbers}
use Rattle.judge_reduced.specs.Planned.{AreListed, AreWhole}
use Rattle.judge_reduced.specs.Reductions.{IsReductionOf}
use Rattle.judge_reduced.proofs.Naming.{seen_below, var_lists}
use Rattle.judge_reduced.proofs.Assembled.{are_listed, found_weaker, is_reduction}
use Rattle.judge_orders.proofs.Keeping.{all_ascend}
use Rattle.judge_orders.proofs.Places.{lists_length}
use Rattle.judge_reduced.proofs.reduced.reduced_run.Goals as goal

pub columns-requires-clause-ascend : goal.columns-requires-clause-ascend
columns-requires-clause-ascend c =
    subst (λ (numbers : List (Vec ℕ Global)). AllAscend (lists_view numbers)) (sym c.deref-2.ensures.value)
    (all_ascend c.args.computation.now (lists_view c.deref.result.now) (lists_view c.in_ok-numbers.numbers.items)
    (lists_length c.in_ok-numbers.numbers.items ∙ c.in_ok-numbers.ensures.one_each) c.in_ok-numbers.ensures.kept)

pub reduced_traces-requires-clause-listed : goal.reduced_traces-requires-clause-listed
reduced_traces-requires-clause-listed c =
    let r = c.args.computation.now in
    let named = lists_view c.in_ok-named.named.items in
    let numbers = lists_view c.in_ok-numbers.numbers.items in
    subst (λ (numbers : List (Vec ℕ Global)). AreListed r.events (lists_view numbers)) (sym c.deref-4.ensures.value)
    (are_listed r named numbers
    (lists_length c.in_ok-named.named.items ∙ (c.in_ok-named.ensures.one_each ∙ c.processes.ensures))
    (lists_length c.in_ok-numbers.numbers.items ∙ c.in_ok-numbers.ensures.one_each)
    (subst (λ (named : List (Vec ℕ Global)). AllKept r (lists_view named) numbers (length r.events))
    c.deref.ensures.value c.in_ok-numbers.ensures.kept))

pub returns-clause-made : goal.returns-clause-made
returns-clause-made c =
    let r = c.args.computation.now in
    let document = document_view c.args.spec.now in
    let named = lists_view c.in_ok-named.named.items in
    let numbers = lists_view c.in_ok-numbers.numbers.items in
    found_weaker
    (λ (traces : Vec Trace Global). AreWhole document.names r (lists_view c.deref-3.result.now)
    (lists_view c.deref-4.result.now) (length r.events) traces.items)
    (λ (traces : Vec Trace Global). IsReductionOf document r traces.items) c.reduced_traces.result
    (λ traces whole. is_reduction r named numbers
    (lists_length c.in_ok-named.named.items ∙ (c.in_ok-named.ensures.one_each ∙ c.processes.ensures))
    (lists_length c.in_ok-numbers.numbers.items ∙ c.in_ok-numbers.ensures.one_each)
    (subst (λ (named : List (Vec ℕ Global)). AllKept r (lists_view named) numbers (length r.events))
    c.deref.ensures.value c.in_ok-numbers.ensures.kept) document traces.items
    c.limits.ensures.acyclic c.requires.names
    (subst (All (λ (asked : NamedPredicate). IsOver named asked.predicate)) c.predicates.ensures
    c.in_ok-named.ensures.over)
    (subst (λ (k : ℕ). SeeNoOther named k document.predicates) c.processes.ensures
    (subst (SeeNoOther named c.processes.result) c.predicates.ensures c.in_ok-named.ensures.just))
    (subst (λ (named : List (Vec ℕ Global)). AreWhole document.names r (lists_view named) numbers
    (length r.events) traces.items) c.deref-3.ensures.value
    (subst (λ (numbers : List (Vec ℕ Global)). AreWhole document.names r (lists_view c.deref-3.result.now)
    (lists_view numbers) (length r.events) traces.items) c.deref-4.ensures.value whole)))
    c.reduced_traces.ensures.whole

pub returns-clause-some : goal.returns-clause-some
returns-clause-some c = λ theirs few.
    let r = c.args.computation.now in
    let document = document_view c.args.spec.now in
    let named = lists_view c.in_ok-named.named.items in
    let all_vars = var_numbers document.names in
    let many : length named ≡ length r.events =
    lists_length c.in_ok-named.named.items ∙ (c.in_ok-named.ensures.one_each ∙ c.processes.ensures) in
    let over : All (λ (asked : NamedPredicate). IsOver named asked.predicate) document.predicates =
    subst (All (λ (asked : NamedPredicate). IsOver named asked.predicate)) c.predicates.ensures
    c.in_ok-named.ensures.over in
    let just : SeeNoOther named (length r.events) document.predicates =
    subst (λ (k : ℕ). SeeNoOther named k document.predicates) c.processes.ensures
    (subst (SeeNoOther named c.processes.result) c.predicates.ensures c.in_ok-named.ensures.just) in
    let grows : Grows named all_vars =
    just all_vars (var_lists document.names ∙ sym c.requires.names) theirs in
    c.reduced_traces.ensures.some
    (subst (λ (named : List (Vec ℕ Global)). AreTheirVars document.names (lists_view named) (length r.events))
    (sym c.deref-3.ensures.value) (λ p lt. seen_below document.names named grows p))
    (subst (λ (numbers : List (Vec ℕ Global)). AreFew (lists_view numbers) (length r.events))
    (sym c.deref-4.ensures.value)
    (few (lists_view c.in_ok-numbers.numbers.items) (record {
      named = named;
      one_each = many;
      over = over;
      just = just;
      kept = subst (λ (named : List (Vec ℕ Global)). AllKept r (lists_view named)
          (lists_view c.in_ok-numbers.numbers.items) (length r.events)) c.deref.ensures.value
          c.in_ok-numbers.ensures.kept;
    })))
