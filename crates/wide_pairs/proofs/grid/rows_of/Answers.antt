-- The row of one count more.
use Rattle.std.proofs.Common.{◌<◌, get_or, nat_eq, ◌≤◌, arith, refl}
use Rattle.std.proofs.lemmas.Bool.{eq-eqb, eqb-true}
use Rattle.wide_pairs.specs.Avoiding.{test_of_pairs}
use Rattle.wide_pairs.specs.Rows.{IsRow}
use Rattle.wide_pairs.proofs.Bands.{is_row, past_of_none, row_some}
use Rattle.wide_pairs.proofs.RowPairs.{next_rows}
use Rattle.wide_pairs.proofs.grid.rows_of.Goals as goal

pub next_row-requires-clause-order : goal.next_row-requires-clause-order
next_row-requires-clause-order g c =
    row_some c.args.computation.now.events c.args.p c.args.q c.args.lows.now c.requires.lows c.loop-i.i
    c.end_of-end.result (omega (arith, c.loop-i-test.true, c.requires.lows.one_each))
    (is_row c.args.computation.now.events c.args.p c.args.q c.args.lows.now c.args.backs.now c.requires.lows
    c.requires.backs c.loop-i.i c.end_of-end.result
    (omega (arith, c.loop-i-test.true, c.requires.lows.one_each)) c.end_of-end.ensures)

pub loop-i-preserved : goal.loop-i-preserved
loop-i-preserved g c =
    let events = c.args.computation.now.events in
    let good = g.G.GoodPairs.good c.args.wanted.now in
    let row : IsRow events c.args.p c.args.q c.loop-i.i (get_or c.args.lows.now c.loop-i.i 0) c.end_of-end.result =
    is_row events c.args.p c.args.q c.args.lows.now c.args.backs.now c.requires.lows c.requires.backs c.loop-i.i
    c.end_of-end.result (omega (arith, c.loop-i-test.true, c.requires.lows.one_each)) c.end_of-end.ensures in
    record {
      rows = next_rows events c.limits.ensures.acyclic (test_of_pairs good c.args.p c.args.q) good c.args.p c.args.q
          (λ e. let less : c.args.p < c.args.q = c.requires.order in omega (arith, e)) (λ cut ok. refl) c.loop-i.i
          (get_or c.args.lows.now c.loop-i.i 0) c.end_of-end.result c.loop-i.rows.items
          c.push-in-loop-i.new.self.items c.index.result.now c.in_ok-row.row (nat_eq c.loop-i.i 0)
          c.in_ok-push-2.ensures.items c.loop-i.invariant.rows c.index.ensures row
          (eqb-true c.loop-i.i 0, eq-eqb c.loop-i.i 0)
          (past_of_none events c.args.p c.args.q c.args.lows.now c.requires.lows c.loop-i.i) c.in_ok-row.ensures;
      within = c.end_of-end.ensures.within;
      before = λ j lt. let le : get_or c.args.backs.now j 0 ≤ c.loop-i.i = c.end_of-end.ensures.before j lt in
          omega (arith, le);
    }
