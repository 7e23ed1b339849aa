-- The good counts of one process from one on.
use Rattle.std.proofs.Common.{◌≡◌, ℕ, ◌<◌, ◌≤◌, Bool, true, cond, List, length, get_or, refl, sym, ◌∙◌, subst, ◌⊎◌, inl, inr, arith}
use Rattle.std.specs.Prelude.{nat_eq, nat_le}
use Rattle.std.proofs.lemmas.Bool.{and_from, and_parts, cases_eq, cond-false, cond-true, eq-eqb, le-leb, leb-true, ne_eqb}
use Rattle.def_model.specs.Events.{Computation}
use Rattle.wide_conjunctions.specs.LeastCuts.{IsGood, IsLeastGood}
use Rattle.wide_slice.specs.Goods.{good_from}

module _ (good : ℕ → ℕ → Bool) (p from : ℕ) (cut : List ℕ) where
  pub good_there : IsGood (good_from good p from) cut → IsGood good cut
  good_there is q lt =
      (and_parts (good q (get_or cut q 0)) (cond (nat_eq q p) (nat_le from (get_or cut q 0)) true) (is q lt)).0

  pub count_there : p < length cut → IsGood (good_from good p from) cut → from ≤ get_or cut p 0
  count_there lt is =
      leb-true from (get_or cut p 0)
      (sym (cond-true (nat_eq p p) (nat_le from (get_or cut p 0)) true (eq-eqb p p refl))
      ∙ (and_parts (good p (get_or cut p 0)) (cond (nat_eq p p) (nat_le from (get_or cut p 0)) true) (is p lt)).1)

  pub good_up : IsGood good cut → from ≤ get_or cut p 0 → IsGood (good_from good p from) cut
  good_up is le q lt =
      and_from (good q (get_or cut q 0)) (cond (nat_eq q p) (nat_le from (get_or cut q 0)) true) (is q lt)
      (go (cases_eq q p))
    where
      go : (q ≡ p) ⊎ (q ≡ p → ⊥) → cond (nat_eq q p) (nat_le from (get_or cut q 0)) true ≡ true
      go (inl same) =
          cond-true (nat_eq q p) (nat_le from (get_or cut q 0)) true (eq-eqb q p same)
          ∙ le-leb from (get_or cut q 0) (subst (λ (i : ℕ). from ≤ get_or cut i 0) (sym same) le)
      go (inr apart) = cond-false (nat_eq q p) (nat_le from (get_or cut q 0)) true (ne_eqb q p apart)

-- the least cut from a count on is the least from the count that it has
pub least_there : (c : Computation) (good : ℕ → ℕ → Bool) (p from : ℕ) (cut : List ℕ) → p < length cut
    → IsLeastGood c (good_from good p from) cut → IsLeastGood c (good_from good p (get_or cut p 0)) cut
least_there c good p from cut lt is = record {
  consistent = is.consistent;
  good_there = good_up good p (get_or cut p 0) cut (good_there good p from cut is.good_there) (omega arith);
  least = λ other ok all.
      is.least other ok
      (good_up good p from other (good_there good p (get_or cut p 0) other all) (omega (
        arith,
        count_there good p from cut lt is.good_there,
        count_there good p (get_or cut p 0) other
            (subst (λ (n : ℕ). p < n) (is.consistent.fits.one_each ∙ sym ok.fits.one_each) lt) all,
      )));
}
