-- One count of the first process more.
use Rattle.std.proofs.Common.{◌+◌, ◌<◌, ◌≤◌, ℕ, get_or, refl, sym, subst, arith}
use Rattle.def_model.specs.Events.{event_count}
use Rattle.wide_pairs.specs.Avoiding.{test_of_pairs}
use Rattle.wide_pairs.specs.Grids.{row_has}
use Rattle.wide_pairs.specs.Levels.{IsLevelAbove}
use Rattle.wide_pairs.specs.Rows.{IsRow}
use Rattle.wide_pairs.proofs.AvoidingLevels.{level_more}
use Rattle.wide_pairs.proofs.Bands.{is_row}
use Rattle.wide_pairs.proofs.RowPairs.{row_of_count}
use Rattle.wide_pairs.proofs.grid_level.level_above.Goals as goal

pub loop-i-preserved : goal.loop-i-preserved
loop-i-preserved g c =
    let events = c.args.computation.now.events in
    let good = g.G.GoodPairs.good c.args._wanted.now in
    let test = test_of_pairs good c.args.p c.args.q in
    let there : c.loop-i.i < event_count events c.args.p + 1 =
    omega (arith, c.loop-i-test.true, c.requires.lows.one_each) in
    let row : IsRow events c.args.p c.args.q c.loop-i.i (get_or c.args.lows.now c.loop-i.i 0) c.end_of-end.result =
    is_row events c.args.p c.args.q c.args.lows.now c.args.backs.now c.requires.lows c.requires.backs c.loop-i.i
    c.end_of-end.result (omega (arith, there)) c.end_of-end.ensures in
    record {
      above = subst (λ (level : ℕ). IsLevelAbove events test c.args.p (c.loop-i.i + 1) level) (sym c.max-level.ensures)
          (level_more events c.limits.ensures.acyclic test good c.args.p c.args.q
          (λ e. let less : c.args.p < c.args.q = c.requires.order in omega (arith, e)) (λ cut ok. refl) c.loop-i.i
          (get_or c.args.lows.now c.loop-i.i 0) c.end_of-end.result row
          (row_has c.index-rows-i.result.first c.index-rows-i.result.words.items)
          (row_of_count events test c.args.p c.args.q (event_count events c.args.p + 1) c.args.rows.now c.requires.rows
          c.loop-i.i c.index-rows-i.result there c.index-rows-i.is) c.loop-i.level c.in_ok-next.next
          c.last_in-last.result c.loop-i.invariant.above c.last_in-last.ensures c.in_ok-next.ensures);
      within = c.end_of-end.ensures.within;
      before = λ j lt. let le : get_or c.args.backs.now j 0 ≤ c.loop-i.i = c.end_of-end.ensures.before j lt in
          omega (arith, le);
    }
