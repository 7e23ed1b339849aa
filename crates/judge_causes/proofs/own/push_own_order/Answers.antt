-- The pair of one receipt more.
use Rattle.std.proofs.Common.{◌++◌, [], ◌∷◌, None, refl, sym, subst}
use Rattle.std.specs.Prelude.{OnOk, Result, Ok, Err, option_map}
use Rattle.pd_clock.specs.Orders.{places_view}
use Rattle.pd_match.specs.Views.{pairs_view, place_view}
use Rattle.judge_causes.specs.Own.{AreOwnOrders}
use Rattle.judge_causes.proofs.OwnOrders.{no_order, none_some, one_order, some_same}
use Rattle.judge_causes.proofs.own.push_own_order.Goals as goal

on_ok : {A E : Type 0} {P Q : Type 0} (result : Result A E) → (P → Q) → OnOk result P → OnOk result Q
on_ok (Ok a) then h = then h
on_ok (Err e) then h = tt

pub returns-in-Some : goal.returns-in-Some
returns-in-Some c =
    on_ok c.push_pair.result
    (λ is received are.
    subst (AreOwnOrders c.args.computation.now.events (received ++ place_view c.args.other ∷ [])
    (places_view c.args.receipts.now)) (sym is)
    (one_order c.args.computation.now.events received (places_view c.args.receipts.now) (place_view c.args.other)
    (pairs_view c.args.pairs.now.items) are (place_view c.in-Some.send) (option_map place_view c.last_before.result)
    ((c.in-Some.ensures (place_view c.in-Some.send)).0 refl)
    (λ send message. some_same (place_view c.in-Some.send) send ((c.in-Some.ensures send).1 message))
    c.last_before.ensures)) c.push_pair.ensures

pub returns-in-None : goal.returns-in-None
returns-in-None c received are =
    no_order c.args.computation.now.events received (places_view c.args.receipts.now) (place_view c.args.other)
    (pairs_view c.args.pairs.now.items) are
    (λ send message. none_some send None refl ((c.in-None.ensures send).1 message))
