-- A count is good exactly if the last interval before the next one is left there.
use Rattle.std.proofs.Common.{sym, subst}
use Rattle.def_model.specs.Events.{event_count}
use Rattle.wide_conjunctions.specs.declared.rows.Row.{Row}
use Rattle.wide_conjunctions.specs.Rows.{IsRow}
use Rattle.wide_conjunctions.proofs.RowSteps.{good_by_leave}
use Rattle.wide_conjunctions.proofs.rows.is_good_count.Goals as goal

pub returns : goal.returns
returns g c =
    let good = g.G.GoodCounts.good c.args._wanted.now c.args.p in
    let last = event_count c.args.computation.now.events c.args.p in
    good_by_leave good last c.args.count c.leave_before.result c.index-rows-p.result.starts.items
    c.index-rows-p.result.leaves.items
    (subst (λ (row : Row). IsRow good last row.starts.items row.leaves.items) (sym c.index-rows-p.is)
    (c.requires.rows.each c.args.p c.index-rows-p.result c.requires.there)) c.requires.within c.leave_before.ensures
