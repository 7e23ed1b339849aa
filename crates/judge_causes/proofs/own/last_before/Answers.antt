-- The last of one receipt more, and of all.
use Rattle.std.proofs.Common.{List, sym, subst, take}
use Rattle.std.specs.Prelude.{option_map}
use Rattle.std.proofs.lemmas.List.{take_all}
use Rattle.def_model.specs.Events.{Place}
use Rattle.pd_clock.specs.Orders.{places_view}
use Rattle.pd_match.specs.Views.{place_view}
use Rattle.pd_match.specs.declared.place.Place as kept
use Rattle.judge_causes.specs.Own.{FindsLastBefore}
use Rattle.judge_causes.proofs.SearchSteps.{view_more}
use Rattle.judge_causes.proofs.own.last_before.Goals as goal

pub loop-receipt-preserved : goal.loop-receipt-preserved
loop-receipt-preserved c =
    subst (λ (l : List Place). FindsLastBefore l (place_view c.args.send) (option_map place_view c.later-best.result))
    (sym (view_more c.args.receipts.now c.loop-receipt.receipt-index _ c.loop-receipt-test.true))
    (c.later-best.ensures (places_view (take c.loop-receipt.receipt-index c.args.receipts.now))
    c.loop-receipt.invariant)

pub returns : goal.returns
returns c =
    subst (λ (l : List kept.Place). FindsLastBefore (places_view l) (place_view c.args.send)
    (option_map place_view c.loop-receipt.best))
    (take_all c.loop-receipt.receipt-index c.args.receipts.now c.loop-receipt-test.false) c.loop-receipt.invariant
