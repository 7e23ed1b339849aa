-- What is seen of the processes at the places.
use Rattle.std.proofs.Common.{◌≡◌, ◌∙◌, ℕ, List, length, map, ap, sym, subst, arith}
use Rattle.std.proofs.lemmas.List.{length-map}
use Rattle.judge_orders.specs.OrderViews.{named_view, process_view, processes_view}
use Rattle.judge_orders.specs.PartCounts.{ArePartsBy}
use Rattle.judge_orders.specs.declared.order.ProcessOrder.{ProcessOrder}
use Rattle.judge_orders.proofs.PartRows.{are_parts}
use Rattle.judge_orders.proofs.Places.{lists_length}
use Rattle.judge_orders.proofs.parts.part_of.Goals as goal

pub returns-clause-parts : goal.returns-clause-parts
returns-clause-parts c = λ r is.
    let places = c.args.places.now in
    let named = named_view c.args.order.now in
    let parts = c.in_ok-processes.processes.items in
    let width : c.len.result ≡ length named =
    grind (arith, c.len.ensures, c.args.order.now.named.ok, lists_length c.args.order.now.named.items) in
    let whole : c.deref-2.result.now ≡ c.args.order.now.processes.items = c.deref-2.ensures.value in
    let many : length c.deref-2.result.now ≡ c.len.result =
    ap (λ (processes : List ProcessOrder). length processes) whole
    ∙ (sym (length-map c.args.order.now.processes.items process_view)
    ∙ (is.all_seen ∙ (sym is.all_named ∙ sym width))) in
    are_parts r named places (processes_view c.args.order.now) (map process_view parts) is c.requires
    (length-map parts process_view ∙ c.in_ok-processes.ensures.one_each many)
    (subst (λ (n : ℕ). ArePartsBy n places (processes_view c.args.order.now) (map process_view parts)
    (length places)) width
    (subst (λ (processes : List ProcessOrder). ArePartsBy c.len.result places (map process_view processes)
    (map process_view parts) (length places)) whole (c.in_ok-processes.ensures.each many)))
