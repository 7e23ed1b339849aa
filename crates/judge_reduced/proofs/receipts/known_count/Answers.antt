-- The column at the event's clock has the count.
use Rattle.std.proofs.Common.{List, ℕ, get_or, sym, ap, ◌∙◌, subst, arith}
use Rattle.std.specs.Prelude.{Vec}
use Rattle.std.specs.Global.{Global}
use Rattle.def_model.specs.Events.{place}
use Rattle.def_model.specs.Order.{IsClock}
use Rattle.judge_orders.specs.Lists.{lists_view}
use Rattle.judge_orders.proofs.Places.{list_at}
use Rattle.judge_reduced.proofs.ReceiptSteps.{known_by_clock}
use Rattle.judge_reduced.proofs.receipts.known_count.Goals as goal

pub returns : goal.returns
returns c = λ apart.
    let r = c.args.computation.now in
    known_by_clock r (lists_view c.args.numbers.now) c.requires.listed c.args.p c.args.i c.args.q c.clock.result
    c.rank.result apart
    (subst (λ (n : ℕ). IsClock r.events (place c.args.p n) c.args.q c.clock.result) c.number_at.ensures c.clock.ensures)
    (c.rank.ensures
    ∙ (ap (λ (xs : List ℕ). get_or xs c.clock.result 0)
    (c.deref.ensures.value ∙ (ap (λ (list : Vec ℕ Global). list.items) c.index-columns-q.is
    ∙ sym (list_at c.args.columns.now c.args.q _ (omega (arith, c.requires.other, c.requires.one_each)))))
    ∙ c.requires.columns c.args.q c.requires.other c.clock.result c.clock.ensures.within))
