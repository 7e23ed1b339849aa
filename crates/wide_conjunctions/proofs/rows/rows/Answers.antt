-- The row of one process more.
use Rattle.std.proofs.Common.{◌≡◌, ◌+◌, ℕ, List, [], ◌∷◌, get_or, length, length-append, sym, ap, ◌∙◌, subst, arith}
use Rattle.def_model.specs.Events.{event_count}
use Rattle.wide_conjunctions.specs.declared.rows.Row.{Row}
use Rattle.wide_conjunctions.specs.Rows.{IsRow}
use Rattle.wide_conjunctions.proofs.RowSteps.{each_more}
use Rattle.wide_conjunctions.proofs.rows.rows.Goals as goal

pub loop-p-preserved : goal.loop-p-preserved
loop-p-preserved g c =
    let good = g.G.GoodCounts.good c.args.wanted.now in
    let events = c.args.computation.now.events in
    let count : length c.loop-p.rows.items ≡ c.loop-p.p = c.loop-p.invariant.count in
    record {
      count =
          ap length c.in_ok-push.ensures.items
          ∙ (length-append c.loop-p.rows.items (c.in_ok-row_of_process.field-0 ∷ []) ∙ ap (λ (n : ℕ). n + 1) count);
      each = λ q d lt.
          subst (λ (xs : List Row). IsRow (good q) (event_count events q) (get_or xs q d).starts.items
          (get_or xs q d).leaves.items) (sym c.in_ok-push.ensures.items)
          (each_more (λ i (x : Row). IsRow (good i) (event_count events i) x.starts.items x.leaves.items)
          c.loop-p.rows.items c.in_ok-row_of_process.field-0 d (λ i low.
          c.loop-p.invariant.each i d (omega (arith, low, count)))
          (subst (λ (n : ℕ). IsRow (good n) (event_count events n) c.in_ok-row_of_process.field-0.starts.items
          c.in_ok-row_of_process.field-0.leaves.items) (sym count) c.in_ok-row_of_process.ensures) q
          (omega (arith, lt, count)));
    }

pub returns : goal.returns
returns g c =
    let end : c.loop-p.p ≡ length c.args.computation.now.events =
    omega (arith, c.loop-p-test.false, c.loop-p.auto.p-end, c.processes-p-end.ensures) in
    record {
      one_each = c.loop-p.invariant.count ∙ end;
      each = λ q d lt. c.loop-p.invariant.each q d (omega (arith, lt, end));
    }
