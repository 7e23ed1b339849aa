-- One receipt more.
use Rattle.std.proofs.Common.{Option, subst, arith}
use Rattle.std.specs.Prelude.{option_map}
use Rattle.pd_match.specs.Views.{place_view}
use Rattle.pd_match.specs.declared.place.Place as kept
use Rattle.judge_causes.specs.Own.{FindsLastBefore}
use Rattle.judge_causes.proofs.OwnOrders.{is_first, is_last, not_before, not_last}
use Rattle.judge_causes.proofs.own.later.Goals as goal

pub returns-then-receipt-send : goal.returns-then-receipt-send
returns-then-receipt-send c receipts found =
    not_before receipts (place_view c.args.send) (place_view c.args.receipt) (option_map place_view c.args.best)
    (λ same less. absurd (c.if-receipt-send.true same)) found

pub returns-then-receipt-send-2 : goal.returns-then-receipt-send-2
returns-then-receipt-send-2 c receipts found =
    not_before receipts (place_view c.args.send) (place_view c.args.receipt) (option_map place_view c.args.best)
    (λ same less. absurd (omega (arith, c.if-receipt-send-2.true, less))) found

pub returns-then-receipt-other : goal.returns-then-receipt-other
returns-then-receipt-other c receipts found =
    not_last receipts (place_view c.args.send) (place_view c.args.receipt) (place_view c.in-Some.other)
    c.if-receipt-other.true
    (subst (λ (best : Option kept.Place).
    FindsLastBefore receipts (place_view c.args.send) (option_map place_view best))
    c.in-Some.is found)

pub returns-else-receipt-other : goal.returns-else-receipt-other
returns-else-receipt-other c receipts found =
    is_last receipts (place_view c.args.send) (place_view c.args.receipt) (place_view c.in-Some.other)
    c.if-receipt-other.false c.if-receipt-send.false c.if-receipt-send-2.false
    (subst (λ (best : Option kept.Place).
    FindsLastBefore receipts (place_view c.args.send) (option_map place_view best))
    c.in-Some.is found)

pub returns-in-None : goal.returns-in-None
returns-in-None c receipts found =
    is_first receipts (place_view c.args.send) (place_view c.args.receipt) c.if-receipt-send.false
    c.if-receipt-send-2.false
    (subst (λ (best : Option kept.Place).
    FindsLastBefore receipts (place_view c.args.send) (option_map place_view best))
    c.in-None.is found)
