-- A row is put, and a break, and then come the others.
use Rattle.std.proofs.Common.{arith, ◌∙◌}
use Rattle.app_text.specs.Rows.{LastRow}
use Rattle.app_text.proofs.RowLengths.{rows_go_on}
use Rattle.app_text.proofs.rows.push_rows.Goals as goal

pub rows-preserved : goal.rows-preserved
rows-preserved c = record {
  some = omega arith;
  rows = rows_go_on c.args.line.now c.args.out.now.items c.rows.out.items c.push_bytes.new.out.items
      c.push_bytes-in-rows.new.out.items c.rows.rest.now c.split_at.result.0.now c.split_at.result.1.now
      c.without_space-rest.result.now c.rows.columns c.row_length.result c.rows.invariant.rows c.rows-test.true
      (c.row_length.ensures c.rows-test.true) c.split_at.ensures.front c.split_at.ensures.back
      c.without_space-rest.ensures c.in_ok-push_bytes.ensures.ok c.in_ok-push_bytes-2.ensures.ok;
}

pub returns : goal.returns
returns c =
    let all = c.rows.invariant.rows c.rows.rest.now (LastRow c.rows.columns c.rows.rest.now c.rows-test.false) in
    (all.0, all.1, c.in_ok-push_bytes-3.ensures.ok ∙ all.2)
