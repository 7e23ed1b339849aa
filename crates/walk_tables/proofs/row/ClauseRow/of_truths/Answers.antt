-- The truth at each count.
use Rattle.std.proofs.Common.{◌≡◌, ◌∙◌, ℕ, Bool, ℤ, ◌+ℤ◌, ◌++◌, ◌∷◌, [], List, arith, length, get_or, below_more, subst, sym, ap, w64, to_z, of_z}
use Rattle.std.proofs.lemmas.Int.{ints, to_z-of_z}
use Rattle.std.proofs.lemmas.List.{get_or_append_left, get_or_past, get_or_push, length_push}
use Rattle.pd_pred.specs.declared.tree.Comparison.{Comparison}
use Rattle.walk_tables.specs.Rows.{IsSingle}
use Rattle.walk_tables.specs.Tables.{table_at}
use Rattle.walk_tables.specs.Zero.{compares_with_zero}
use Rattle.walk_tables.proofs.Conjunctions.{rows_at}
use Rattle.walk_tables.proofs.row.ClauseRow.of_truths.Goals as goal

single_along : (comparison : Comparison) (truth : Bool) (a b : ℤ) (word : ℕ)
    → truth ≡ compares_with_zero comparison a → a ≡ b → IsSingle truth word
    → IsSingle (compares_with_zero comparison b) word
single_along comparison truth a b word is same single =
    (single.0 ∙ is ∙ ap (compares_with_zero comparison) same, single.1)

pub loop-n-preserved : goal.loop-n-preserved
loop-n-preserved c =
    let words = c.loop-n.words.items in
    let kept = c.loop-n.invariant in
    let items : c.push.new.self.items ≡ words ++ c.single.result ∷ [] = c.in_ok-push.ensures.items in
    let rest = to_z w64 (of_z w64 c.args.rest) in
    let truth : ℕ → Bool = λ k. compares_with_zero c.args.comparison (rest +ℤ table_at c.args.table.now k) in
    let number : ℤ = rest +ℤ table_at c.args.table.now c.loop-n.n in
    let here : IsSingle (truth c.loop-n.n) c.single.result =
    single_along c.args.comparison c.holds_at_zero.result _ number c.single.result c.holds_at_zero.ensures
    (omega (arith, ints, c.at.ensures.value, c.at.ensures.small, c.requires)) c.single.ensures in
    record {
      long = ap length items ∙ length_push words c.single.result ∙ omega (arith, kept.long);
      done = below_more (λ k. IsSingle (truth k) (get_or c.push.new.self.items k 0)) c.loop-n.n
          (λ k lt.
          subst (λ (ws : List ℕ). IsSingle (truth k) (get_or ws k 0)) (sym items)
          (subst (λ (w : ℕ). IsSingle (truth k) w)
          (sym (get_or_append_left words (c.single.result ∷ []) 0 k (omega (arith, kept.long)))) (kept.done k lt)))
          (subst (λ (ws : List ℕ). IsSingle (truth c.loop-n.n) (get_or ws c.loop-n.n 0)) (sym items)
          (subst (λ (w : ℕ). IsSingle (truth c.loop-n.n) w)
          (sym (get_or_push words c.single.result 0 c.loop-n.n kept.long)) here));
    }

pub returns : goal.returns
returns c n =
    let words = c.loop-n.words.items in
    let kept = c.loop-n.invariant in
    let table = c.args.table.now in
    let read : to_z w64 (of_z w64 c.args.rest) ≡ c.args.rest =
    to_z-of_z w64 c.args.rest (record { sfits = c.ranges.rest.sfits }) in
    let end : length words ≡ length table.values.items = omega arith in
    rows_at (λ k a b. IsSingle (compares_with_zero c.args.comparison (c.args.rest +ℤ table_at table k)) b) words words
    c.single-beyond.result c.single-beyond.result (λ i. length words)
    (λ k lt.
    subst (λ (r : ℤ). IsSingle (compares_with_zero c.args.comparison (r +ℤ table_at table k)) (get_or words k 0)) read
    (kept.done k (omega arith)))
    (λ k le.
    let past = get_or_past table.values.items k table.beyond (omega arith) in
    single_along c.args.comparison c.holds_at_zero-2.result _ (c.args.rest +ℤ table_at table k)
    c.single-beyond.result c.holds_at_zero-2.ensures
    (omega (arith, ints, past, c.at_end.ensures.value, c.at_end.ensures.small, c.requires, read))
    c.single-beyond.ensures) n
