-- What is said of the places, and of the part that they make.
use Rattle.std.proofs.Common.{◌≡◌, ◌≤◌, ◌∙◌, List, ℕ, [], ap, length, subst, sym, arith}
use Rattle.std.proofs.lemmas.List.{length-map}
use Rattle.def_orders.specs.Selections.{AreParts, at_places}
use Rattle.judge_orders.specs.OrderViews.{named_view, processes_view}
use Rattle.judge_orders.specs.declared.order.Order.{Order}
use Rattle.judge_reduction.proofs.reduced.seen_part.Goals as goal

pub returns : goal.returns
returns c =
    let order : Order = c.args.order.now in
    let part : Order = c.in_ok-part.part in
    let same : length (named_view order) ≡ length c.named.result.now =
    sym (ap length c.named.ensures) ∙ length-map c.named.result.now _ in
    let some : 1 ≤ length (named_view order) = omega (arith, same, c.if-named-eq0.false) in
    record {
      some = c.in_ok-places.ensures.some;
      ascend = c.in_ok-places.ensures.ascend;
      there = c.in_ok-places.ensures.there some;
      unseen = c.in_ok-places.ensures.unseen;
      same_named = subst (λ (places : List ℕ). named_view part ≡ at_places places (named_view order) [])
          c.deref.ensures.value c.in_ok-part.ensures.named;
      are_parts = λ r is. subst (λ (places : List ℕ). AreParts places (processes_view order) (processes_view part))
          c.deref.ensures.value (c.in_ok-part.ensures.parts r is);
    }
