-- The table is made under its rule, each stream's seat is cut off the dealer's, and what is left is the watcher's.
use Rattle.std.proofs.Common.{◌≡◌, ◌∙◌, ℕ, ◌+◌, List, [], ◌∷◌, ◌++◌, ◌-◌, ◌<◌, false, drop, take, All, length, get_or, ap, sym, subst, arith}
use Rattle.std.proofs.lemmas.List.Elements.{All-push}
use Rattle.atomic_table.specs.Table.{opening, Splits}
use Rattle.def_format.specs.Histories.{fresh_row}
use Rattle.pd_register.specs.declared.history.History.{History}
use Rattle.pd_register.specs.declared.seat.Seat.{Seat}
use Rattle.pd_register.specs.Views.{row_value, history_view}
use Rattle.pd_register.specs.LockRule.{view, Kept, fresh_from}
use Rattle.pd_register.specs.Seats.{IsFresh, stream_of}
use Rattle.pd_register.proofs.ListFacts.{each_push, in_order}
use Rattle.pd_register.proofs.RuleSteps.{opens, deals_fresh, first_fresh, rest_fresh}
use Rattle.pd_register.proofs.register.Register.new.Goals as goal

pub new-requires-2 : goal.new-requires-2
new-requires-2 c =
    let n : ℕ = c.args.streams in
    let stored = c.in_ok-new.field-0 in
    let items : c.push_reserved.new.self.items ≡ stored ∷ [] =
    c.push_reserved.ensures.items ∙ ap (λ (l : List History). l ++ stored ∷ []) c.in_ok-slots.ensures.items in
    subst (λ (l : List History). Kept n (opening (0 ∷ []) l (view n (fresh_from 0 (n + 1)) [] false))) (sym items)
    (opens n stored c.in_ok-new.ensures.0 c.in_ok-new.ensures.1)

pub split_seat-inner-requires : goal.split_seat-inner-requires
split_seat-inner-requires c =
    let n : ℕ = c.args.streams in
    let i : ℕ = c.loop-stream.stream in
    let d = c.loop-stream.dealer in
    let key = c.in-Ok.made.0.shared.key in
    let inv = c.loop-stream.invariant in
    let count : n + 1 - i ≡ n - i + 1 = omega (arith, c.loop-stream-test.true) in
    let e : d.me.0 ≡ view n (fresh_from i (n - i + 1)) [] false =
    ap (λ m. m.0) inv.dealer.1 ∙ ap (λ (k : ℕ). view n (fresh_from i k) [] false) count in (
      inv.dealer.0,
      omega (arith, c.in-Ok.ensures.ok.0),
      subst (λ v. Splits (Kept key) d.id v (view v.streams (drop 1 v.rows) [] false)
          (view v.streams (take 1 v.rows) [] false)) (sym e)
          (deals_fresh key n d.id i (n - i) (omega (arith, c.loop-stream-test.true))),
    )

pub fresh-requires-clause-me : goal.fresh-requires-clause-me
fresh-requires-clause-me c =
    let n : ℕ = c.args.streams in
    let i : ℕ = c.loop-stream.stream in
    let inv = c.loop-stream.invariant in
    let count : n + 1 - i ≡ n - i + 1 = omega (arith, c.loop-stream-test.true) in
    let rows : take 1 (c.loop-stream.dealer.me.0.rows) ≡ (i, row_value fresh_row) ∷ [] =
    ap (λ m. take 1 m.0.rows) inv.dealer.1
    ∙ (ap (λ (k : ℕ). take 1 (fresh_from i k)) count ∙ first_fresh i (n - i)) in
    let is = c.split_seat-inner.ensures.4 ∙ (λ j. (view c.loop-stream.dealer.me.0.streams (rows j) [] false, [])) in
    is ∙ (λ j. (view (sym (ap (λ m. m.0.streams) is) j) ((i, row_value fresh_row) ∷ []) [] false, []))

pub loop-stream-preserved : goal.loop-stream-preserved
loop-stream-preserved c =
    let n : ℕ = c.args.streams in
    let i : ℕ = c.loop-stream.stream in
    let inv = c.loop-stream.invariant in
    let old = c.loop-stream.dealer.me in
    let seat = c.fresh.result in
    let id = c.in-Ok.made.0.shared.table_id in
    let count : n + 1 - i ≡ n - i + 1 = omega (arith, c.loop-stream-test.true) in
    let after : n - i ≡ n + 1 - (i + 1) = omega (arith, c.loop-stream-test.true) in
    let rows : drop 1 old.0.rows ≡ fresh_from (i + 1) (n + 1 - (i + 1)) =
    ap (λ m. drop 1 m.0.rows) inv.dealer.1 ∙ (ap (λ (k : ℕ). drop 1 (fresh_from i k)) count
    ∙ (rest_fresh i (n - i) ∙ ap (fresh_from (i + 1)) after)) in
    let streams : old.0.streams ≡ n = ap (λ m. m.0.streams) inv.dealer.1 in
    let inner = c.fresh.ensures.0 in
    let t = c.split_seat-inner.ensures in
    let items = c.in_ok-push.ensures.items in
    let seats = c.loop-stream.seats.items in
    let In : ℕ → Seat → Type 0 = λ k s. s.stream ≡ 0 + k in
    let Own : Seat → Type 0 = λ s. (s.inner.table_id ≡ id) × (s.inner.me.0.streams ≡ n) in
    let own_now : Own seat = (
      ap (λ h. h.table_id) inner ∙ (t.3 ∙ inv.dealer.0),
      ap (λ h. h.me.0.streams) inner ∙ (ap (λ m. m.0.streams) t.4 ∙ streams),
    ) in
    let fresh_now : IsFresh seat = (
      c.fresh.ensures.2,
      ap history_view (ap (λ h. h.me.0.seen) inner ∙ ap (λ m. m.0.seen) t.4),
    ) in
    let in_now : In (length seats) seat = c.fresh.ensures.1 ∙ omega (arith, inv.count) in record {
      dealer = (t.0 ∙ inv.dealer.0, t.2 ∙ (λ j. (view (streams j) (rows j) [] false, ap (λ m. m.1) inv.dealer.1 j)));
      count = omega (arith, c.in_ok-push.ensures.len, inv.count);
      order = subst (λ (l : List Seat). (k : ℕ) (d : Seat) → k < length l → In k (get_or l k d)) (sym items)
          (each_push In seats seat inv.order in_now);
      own = subst (All Own) (sym items) (All-push Own seats seat inv.own own_now);
      fresh = subst (All IsFresh) (sym items) (All-push IsFresh seats seat inv.fresh fresh_now);
    }

pub returns-clause-seats : goal.returns-clause-seats
returns-clause-seats c =
    let inv = c.loop-stream.invariant in
    let seats = c.loop-stream.seats.items in
    let key : c.args.streams ≡ c.in-Ok.made.0.shared.key = sym c.in-Ok.ensures.ok.5 in (
      (
        omega (arith, inv.count, key, c.loop-stream-test.false),
        in_order stream_of 0 seats inv.order,
        λ k d lt. ((inv.own k d lt).0, (inv.own k d lt).1 ∙ key),
      ),
      inv.fresh,
    )
