-- What is seen of a process is made of its values and its rows.
use Rattle.std.proofs.Common.{◌≡◌, ◌<◌, ◌∷◌, List, ℕ, [], length, sym, ap, ◌∙◌, subst, arith}
use Rattle.std.specs.Prelude.{Vec, flat_map, slice_index_or}
use Rattle.std.specs.Global.{Global}
use Rattle.def_orders.specs.Orders.{values_after}
use Rattle.judge_orders.specs.Lists.{lists_view}
use Rattle.judge_orders.specs.Ranked.{AreRowsBy, HaveColumns}
use Rattle.judge_orders.proofs.Places.{list_at, lists_length}
use Rattle.judge_orders.proofs.Rows.{all_known}
use Rattle.judge_orders.proofs.seen.process_order.Goals as goal

pub returns : goal.returns
returns c =
    let r = c.args.computation.now in
    let numbers = lists_view c.args.numbers.now in
    let columns = lists_view c.args.columns.now in
    let within : c.args.p < length c.args.numbers.now = omega (arith, c.requires.within, c.requires.all_kept) in
    let values_of : c.deref.result.now ≡ slice_index_or numbers c.args.p [] =
    c.deref.ensures.value ∙ (ap (λ (list : Vec ℕ Global). list.items) c.index-numbers-p.is
    ∙ sym (list_at c.args.numbers.now c.args.p _ within)) in
    let rows_of : c.deref-2.result.now ≡ slice_index_or numbers c.args.p [] =
    c.deref-2.ensures.value ∙ (ap (λ (list : Vec ℕ Global). list.items) c.index-numbers-p-2.is
    ∙ sym (list_at c.args.numbers.now c.args.p _ within)) in
    let many : length numbers ≡ length r.events = lists_length c.args.numbers.now ∙ c.requires.all_kept in
    let rows : AreRowsBy r.events columns c.args.p (slice_index_or numbers c.args.p []) c.in_ok-known.known.items =
    subst (λ (events : List ℕ). AreRowsBy r.events columns c.args.p events c.in_ok-known.known.items) rows_of
    c.in_ok-known.ensures in
    record {
      kept = c.requires.kept;
      values = c.in_ok-values.ensures
          ∙ ap (λ (events : List ℕ). flat_map (values_after r c.args.p c.args.vars.now) (0 ∷ events)) values_of;
      rows = rows.rows;
      are_rows = all_known r numbers columns c.args.p (slice_index_or numbers c.args.p []) rows.rows
          (omega (arith, many, lists_length c.args.columns.now, c.requires.one_each))
          (subst (HaveColumns r.events numbers columns) (sym many) c.requires.columns) rows.are_rows;
      known = rows.is;
    }
