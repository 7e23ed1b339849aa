-- A closed set weighs at most what its positive members have left; and a frozen one no less.
use Rattle.std.proofs.Common.{◌≡◌, ℕ, ◌+◌, ◌<◌, ◌≤◌, Bool, true, false, cond, not, ◌&&◌, IsTrue, List, ◌<ℤ◌, ◌≤ℤ◌, pos, refl, sym, sum_by, arith}
use Rattle.std.proofs.lemmas.Bool.{false≢true}
use Rattle.wide_flow.specs.declared.step.Step.{Step}
use Rattle.wide_flow.specs.declared.takes.Take.{Take}
use Rattle.wide_flow.specs.Closed.{IsClosed, set_weight}
use Rattle.wide_flow.specs.Flows.{AreBalanced, AreTakes, CanTake, IsTakenInside, no_take, share, take_at, total}
use Rattle.wide_flow.specs.Steps.{is_negative, sizes}
use Rattle.wide_flow.proofs.Totals.{sum_by-le_at}
use Rattle.wide_flow.proofs.Weights.{negatives, positives, weight-ge, weight-lt, weight_is}

-- what one take adds to either side
share_le : (taker payer negative_taker negative_payer : Bool) (amount : ℕ) → negative_taker ≡ false
    → negative_payer ≡ true → (IsTrue taker → IsTrue payer)
    → cond (taker && not negative_taker) amount 0 + cond (payer && not negative_payer) amount 0
    ≤ cond (taker && negative_taker) amount 0 + cond (payer && negative_payer) amount 0
share_le true true false true amount e f h = omega arith
share_le true false false true amount e f h = absurd (false≢true (h refl))
share_le false true false true amount e f h = omega arith
share_le false false false true amount e f h = omega arith
share_le taker payer true negative amount e f h = absurd (false≢true (sym e))
share_le taker payer false false amount e f h = absurd (false≢true f)

share_ge : (taker payer negative_taker negative_payer : Bool) (amount : ℕ) → negative_taker ≡ false
    → negative_payer ≡ true → (IsTrue payer → IsTrue taker)
    → cond (taker && negative_taker) amount 0 + cond (payer && negative_payer) amount 0
    ≤ cond (taker && not negative_taker) amount 0 + cond (payer && not negative_payer) amount 0
share_ge true true false true amount e f h = omega arith
share_ge true false false true amount e f h = omega arith
share_ge false true false true amount e f h = absurd (false≢true (h refl))
share_ge false false false true amount e f h = omega arith
share_ge taker payer true negative amount e f h = absurd (false≢true (sym e))
share_ge taker payer false false amount e f h = absurd (false≢true f)

module _ (steps : List Step) (left : List ℕ) (takes : List Take) (last : List ℕ)
    (are : AreTakes steps left takes last) (balanced : AreBalanced steps left takes 0 0) (has : ℕ → Bool) where
  pub sums : (set : ℕ → Bool) → total set left + sum_by (share set) takes ≡ total set (sizes steps)
  sums set = go (set 0) (balanced.sums set)
    where
      go : (b : Bool) → total set left + sum_by (share set) takes ≡ total set (sizes steps) + cond b 0 0
          → total set left + sum_by (share set) takes ≡ total set (sizes steps)
      go true e = omega (arith, e)
      go false e = omega (arith, e)

  -- its positive members take what its negative members pay
  at_most : IsClosed steps has
      → total (positives steps has) (sizes steps)
      ≤ total (negatives steps has) (sizes steps) + total (positives steps has) left
  at_most closed =
      let le : sum_by (share (positives steps has)) takes ≤ sum_by (share (negatives steps has)) takes =
      sum_by-le_at (share (positives steps has)) (share (negatives steps has)) no_take takes
      (λ i lt.
      let can : CanTake steps (take_at takes i).taker (take_at takes i).payer = are.each i lt in
      share_le (has (take_at takes i).taker) (has (take_at takes i).payer)
      (is_negative steps (take_at takes i).taker) (is_negative steps (take_at takes i).payer)
      (take_at takes i).amount can.positive can.negative
      (closed (take_at takes i).payer (take_at takes i).taker can.payer_there can.taker_there can.past)) in
      omega (arith, le, sums (positives steps has), sums (negatives steps has))

  -- its negative members pay all they can, to its positive members
  at_least : IsTakenInside has takes → total (negatives steps has) left ≡ 0
      → total (negatives steps has) (sizes steps) + total (positives steps has) left
      ≤ total (positives steps has) (sizes steps)
  at_least inside full =
      let le : sum_by (share (negatives steps has)) takes ≤ sum_by (share (positives steps has)) takes =
      sum_by-le_at (share (negatives steps has)) (share (positives steps has)) no_take takes
      (λ i lt.
      let can : CanTake steps (take_at takes i).taker (take_at takes i).payer = are.each i lt in
      share_ge (has (take_at takes i).taker) (has (take_at takes i).payer)
      (is_negative steps (take_at takes i).taker) (is_negative steps (take_at takes i).payer)
      (take_at takes i).amount can.positive can.negative (inside i lt)) in
      omega (arith, le, full, sums (positives steps has), sums (negatives steps has))

  pub weighs_less : (most target : ℕ) → IsClosed steps has → total (positives steps has) left ≤ most → most < target
      → set_weight has steps <ℤ pos target
  weighs_less most target closed le lt =
      weight-lt (set_weight has steps) (total (negatives steps has) (sizes steps))
      (total (positives steps has) (sizes steps)) most target (weight_is has steps)
      (omega (arith, at_most closed, le)) lt

  pub weighs_enough : (least : ℕ) → IsTakenInside has takes → total (negatives steps has) left ≡ 0
      → least ≤ total (positives steps has) left → pos least ≤ℤ set_weight has steps
  weighs_enough least inside full le =
      weight-ge (set_weight has steps) (total (negatives steps has) (sizes steps))
      (total (positives steps has) (sizes steps)) least (weight_is has steps)
      (omega (arith, at_least inside full, le))
