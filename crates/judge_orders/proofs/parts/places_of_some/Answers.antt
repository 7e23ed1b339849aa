-- The next list is empty, or it isn't.
use Rattle.std.proofs.Common.{◌≡◌, ◌+◌, ℕ, List, length, sym, ap, ◌∙◌, subst, arith}
use Rattle.std.specs.Prelude.{Vec}
use Rattle.std.specs.Global.{Global}
use Rattle.std.proofs.lemmas.Bool.Decides.{nat_tests}
use Rattle.std.proofs.lemmas.List.{nil_from_length}
use Rattle.judge_orders.specs.Lists.{lists_view}
use Rattle.judge_orders.proofs.Places.{list_at}
use Rattle.judge_orders.proofs.SomeLists.{ArePlacesOf, places_more, places_same}
use Rattle.judge_orders.proofs.parts.places_of_some.Goals as goal
use Rattle.judge_orders.proofs.parts.places_of_some.Goals.{then-not-is_empty+in_ok-push, else-not-is_empty}

pub loop-p-preserved : goal.loop-p-preserved
loop-p-preserved c =
    let lists = lists_view c.args.lists.now in
    elim c.if-not-is_empty.branch [
      | then-not-is_empty+in_ok-push w ↦
          subst (λ (places : List ℕ). ArePlacesOf lists places (c.loop-p.p + 1))
          (sym w.in_ok-push.ensures.items ∙ ap (λ (places : Vec ℕ Global). places.items) (sym w.places-is))
          (places_more lists c.loop-p.places.items c.loop-p.p c.loop-p.invariant)
      | else-not-is_empty w ↦
          let none : length c.index-lists-p.result.items ≡ 0 =
          grind (arith, nat_tests, c.is_empty.ensures, w.if-not-is_empty, c.index-lists-p.result.ok) in
          subst (λ (places : Vec ℕ Global). ArePlacesOf lists places.items (c.loop-p.p + 1)) (sym w.places-is)
          (places_same lists c.loop-p.places.items c.loop-p.p c.loop-p.invariant
          (list_at c.args.lists.now c.loop-p.p _ c.loop-p-test.true
          ∙ (ap (λ (list : Vec ℕ Global). list.items) (sym c.index-lists-p.is)
          ∙ nil_from_length c.index-lists-p.result.items none)))
    ]
