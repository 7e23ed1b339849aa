-- A bit of both is a bit of each.
use Rattle.std.proofs.Common.{◌≡◌, ◌∙◌, ◌<◌, ◌≤◌, ◌⊎◌, ℕ, inl, inr, IsTrue, slice_index, sym, subst, arith}
use Rattle.std.proofs.lemmas.Bool.{and_parts, cases_lt}
use Rattle.walk_keys.specs.Words.{has_bit}
use Rattle.walk_marks.proofs.skipped.common.Goals as goal

pub loop-i-preserved : goal.loop-i-preserved
loop-i-preserved c q k has lt = go (cases_lt k c.loop-i.i)
  where
    go : (k < c.loop-i.i) ⊎ (c.loop-i.i ≤ k) → IsTrue (has_bit (slice_index c.args.words.now k) q)
    go (inl less) =
        c.loop-i.invariant q k (and_parts (has_bit c.loop-i.bits q) _ (sym (c.both-bits.ensures q) ∙ has)).0 less
    go (inr more) =
        let e : c.loop-i.i ≡ k = omega arith in
        subst (λ (n : ℕ). IsTrue (has_bit (slice_index c.args.words.now n) q)) e
        (subst (λ (word : ℕ). IsTrue (has_bit word q)) c.from.ensures
        (and_parts (has_bit c.loop-i.bits q) (has_bit c.from.result q) (sym (c.both-bits.ensures q) ∙ has)).1)
