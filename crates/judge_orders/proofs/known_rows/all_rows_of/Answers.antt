-- The rows of one more process.
use Rattle.std.proofs.Common.{◌≡◌, ◌<◌, List, ℕ, [], length, sym, ap, ◌∙◌, subst, arith}
use Rattle.std.specs.Prelude.{Vec, slice_index_or}
use Rattle.std.specs.Global.{Global}
use Rattle.judge_orders.specs.Lists.{lists_view}
use Rattle.judge_orders.specs.RankTables.{HasRowsAt}
use Rattle.judge_orders.proofs.Places.{list_at}
use Rattle.judge_orders.proofs.known_rows.all_rows_of.Goals as goal

pub rows_of-requires : goal.rows_of-requires
rows_of-requires c =
    let in_rows : c.loop-p.p < length c.args.rows.now = omega (arith, c.requires.one_each, c.loop-p-test.true) in
    let rows : slice_index_or (lists_view c.args.rows.now) c.loop-p.p [] ≡ c.deref.result.now =
    list_at c.args.rows.now c.loop-p.p _ in_rows
    ∙ (ap (λ (list : Vec ℕ Global). list.items) (sym c.index-rows-p.is) ∙ sym c.deref.ensures.value) in
    let numbers : slice_index_or (lists_view c.args.numbers.now) c.loop-p.p [] ≡ c.deref-in-loop-p.result.now =
    list_at c.args.numbers.now c.loop-p.p _ c.loop-p-test.true
    ∙ (ap (λ (list : Vec ℕ Global). list.items) (sym c.index-numbers-p.is)
    ∙ sym c.deref-in-loop-p.ensures.value) in
    subst (λ (xs : List ℕ). HasRowsAt (length c.args.numbers.now) c.deref.result.now xs) numbers
    (subst (λ (xs : List ℕ). HasRowsAt (length c.args.numbers.now) xs
    (slice_index_or (lists_view c.args.numbers.now) c.loop-p.p [])) rows
    (c.requires.there c.loop-p.p c.loop-p-test.true))
