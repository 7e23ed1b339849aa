-- One more process, or none is left.
use Rattle.std.proofs.Common.{◌+◌, List, ℕ, get_or, take, sym, ap, ◌∙◌, subst}
use Rattle.std.specs.Prelude.{Vec}
use Rattle.std.specs.Global.{Global}
use Rattle.judge_orders.specs.Lists.{lists_view}
use Rattle.judge_orders.specs.Ranked.{AddsRow}
use Rattle.pd_match.specs.Views.{place_view}
use Rattle.judge_orders.proofs.Rows.{row_more}
use Rattle.judge_orders.proofs.seen.push_row.Goals as goal

pub loop-q-preserved : goal.loop-q-preserved
loop-q-preserved c =
    subst (AddsRow c.args.computation.now.events (lists_view (take (c.loop-q.q + 1) c.args.columns.now))
    (place_view c.args.event) c.args.known.now.items) (sym c.in_ok-push.ensures.items)
    (row_more c.args.computation.now.events c.args.columns.now c.loop-q.q _ (place_view c.args.event)
    c.args.known.now.items c.loop-q.known.items c.clock.result c.rank.result c.loop-q-test.true c.loop-q.invariant
    c.clock.ensures
    (c.rank.ensures ∙ ap (λ (xs : List ℕ). get_or xs c.clock.result 0)
    (c.deref.ensures.value ∙ ap (λ (list : Vec ℕ Global). list.items) c.index-columns-q.is)))
