-- The level after the greatest avoiding cut, one count of the first process more at a time.
use Rattle.std.proofs.Common.{◌≡◌, ◌≢◌, ℕ, ◌+◌, ◌<◌, ◌≤◌, ◌⊎◌, inl, inr, ◌↔◌, max, Bool, true, List, get_or, sum, Option, Some, None, refl, sym, ◌∙◌, subst, arith}
use Rattle.std.proofs.lemmas.Bool.{cases_lt, false≢true}
use Rattle.def_model.specs.Cuts.{IsConsistent}
use Rattle.def_model.specs.Events.{Computation}
use Rattle.def_model.specs.Observations.{IsAvoiding}
use Rattle.def_model.specs.Order.{HasNoCycle}
use Rattle.def_model.proofs.Counts.{sum_le}
use Rattle.def_model.proofs.Paths.{avoiding_level}
use Rattle.wide_pairs.specs.Avoiding.{IsAvoidingPair}
use Rattle.wide_pairs.specs.Levels.{IsLastTrue, IsLevelAbove, IsRowLevel}
use Rattle.wide_pairs.specs.Mosts.{IsMostWithin}
use Rattle.wide_pairs.specs.Pairs.{IsOfPair}
use Rattle.wide_pairs.specs.Rows.{IsRow}
use Rattle.wide_pairs.proofs.AvoidingPairs.{avoids_by_pair}

pub no_level : (c : Computation) (test : List ℕ → Bool) (p : ℕ) → IsLevelAbove c test p 0 0
no_level c test p = record { above = λ cut avoids lt. absurd (omega arith); next = λ some. absurd (omega arith) }

module _ (c : Computation) (acyclic : HasNoCycle c) (test : List ℕ → Bool) (good : ℕ → ℕ → Bool) (p q : ℕ)
    (apart : p ≢ q) (of : IsOfPair c test good p q) (i low end : ℕ) (row : IsRow c p q i low end) (has : ℕ → Bool)
    (is_has : (j : ℕ) → (has j ≡ true) ↔ IsAvoidingPair c test p q i j) where
  consistent_of : (cut : List ℕ) → IsAvoiding c test (sum cut) cut → IsConsistent c cut
  consistent_of cut avoids = (avoiding_level c test (sum cut) cut avoids).0

  -- the pair of an avoiding cut is in the row
  had : (cut : List ℕ) → IsAvoiding c test (sum cut) cut → get_or cut p 0 ≡ i → (low ≤ get_or cut q 0)
      × (get_or cut q 0 < end) × (has (get_or cut q 0) ≡ true)
  had cut avoids at =
      let w : (low ≤ get_or cut q 0) × (get_or cut q 0 < end) =
      (row (get_or cut q 0)).0 (cut, consistent_of cut avoids, at, refl) in
      (w.0, w.1, (is_has (get_or cut q 0)).1 (cut, avoids, at, refl))

  -- the greatest cut of the last pair avoids
  most_avoids : (j : ℕ) (most : List ℕ) → has j ≡ true → IsMostWithin c p q i j most → IsAvoiding c test (sum most) most
  most_avoids j most is_true is =
      (avoids_by_pair c acyclic test good p q apart of most is.consistent).1
      (subst (λ (n : ℕ). IsAvoidingPair c test p q n (get_or most q 0)) (sym at_p)
      (subst (λ (n : ℕ). IsAvoidingPair c test p q i n) (sym at_q) pair))
    where
      pair : IsAvoidingPair c test p q i j
      pair = (is_has j).0 is_true

      at_p : get_or most p 0 ≡ i
      at_p =
          let w : IsAvoidingPair c test p q i j = pair in
          let here : get_or w.0 p 0 ≡ i = w.2 in
          let too : get_or w.0 q 0 ≡ j = w.3 in
          let below : get_or w.0 p 0 ≤ get_or most p 0 =
          is.most w.0 (consistent_of w.0 w.1) (omega arith) (omega arith) p in
          let above : get_or most p 0 ≤ i = is.first in
          omega arith

      at_q : get_or most q 0 ≡ j
      at_q =
          let w : IsAvoidingPair c test p q i j = pair in
          let here : get_or w.0 p 0 ≡ i = w.2 in
          let too : get_or w.0 q 0 ≡ j = w.3 in
          let below : get_or w.0 q 0 ≤ get_or most q 0 =
          is.most w.0 (consistent_of w.0 w.1) (omega arith) (omega arith) q in
          let above : get_or most q 0 ≤ j = is.second in
          omega arith

  -- and each avoiding cut with this count has no more events
  below_most : (j : ℕ) (most cut : List ℕ) → IsLastTrue has low end (Some j) → IsMostWithin c p q i j most
      → IsAvoiding c test (sum cut) cut → get_or cut p 0 ≡ i → sum cut ≤ sum most
  below_most j most cut last is avoids at = go (cases_lt j (get_or cut q 0))
    where
      w : (low ≤ get_or cut q 0) × (get_or cut q 0 < end) × (has (get_or cut q 0) ≡ true)
      w = had cut avoids at

      go : (j < get_or cut q 0) ⊎ (get_or cut q 0 ≤ j) → sum cut ≤ sum most
      go (inl lt) = absurd (false≢true (sym (last.3 (get_or cut q 0) lt w.1) ∙ w.2))
      go (inr le) =
          sum_le cut most (is.most cut (consistent_of cut avoids) (omega arith) le)
          ((consistent_of cut avoids).fits.one_each ∙ sym is.consistent.fits.one_each)

  pub level_more : (level next : ℕ) (last : Option ℕ) → IsLevelAbove c test p i level → IsLastTrue has low end last
      → IsRowLevel c p q i last next → IsLevelAbove c test p (i + 1) (max level next)
  level_more level next None is none zero_there =
      record {
        above = λ cut avoids lt. go cut avoids lt (cases_lt (get_or cut p 0) i);
        next = λ some.
            let w : (cut : List ℕ) × IsAvoiding c test (sum cut) cut × (sum cut + 1 ≡ level) = is.next (omega arith) in
            (w.0, w.1, let e : sum w.0 + 1 ≡ level = w.2 in omega arith);
      }
    where
      go : (cut : List ℕ) → IsAvoiding c test (sum cut) cut → get_or cut p 0 < i + 1
          → (get_or cut p 0 < i) ⊎ (i ≤ get_or cut p 0) → sum cut < max level next
      go cut avoids lt (inl less) = let s : sum cut < level = is.above cut avoids less in omega arith
      go cut avoids lt (inr le) =
          let w : (low ≤ get_or cut q 0) × (get_or cut q 0 < end) × (has (get_or cut q 0) ≡ true) =
          had cut avoids (omega arith) in
          absurd (false≢true (sym (none (get_or cut q 0) w.0 w.1) ∙ w.2))
  level_more level next (Some j) is last (most, within, same) =
      record {
        above = λ cut avoids lt. go cut avoids lt (cases_lt (get_or cut p 0) i);
        next = λ some. pick (cases_lt level next);
      }
    where
      go : (cut : List ℕ) → IsAvoiding c test (sum cut) cut → get_or cut p 0 < i + 1
          → (get_or cut p 0 < i) ⊎ (i ≤ get_or cut p 0) → sum cut < max level next
      go cut avoids lt (inl less) = let s : sum cut < level = is.above cut avoids less in omega arith
      go cut avoids lt (inr le) =
          let s : sum cut ≤ sum most = below_most j most cut last within avoids (omega arith) in omega arith

      pick : (level < next) ⊎ (next ≤ level) → (cut : List ℕ) × IsAvoiding c test (sum cut) cut
          × (sum cut + 1 ≡ max level next)
      pick (inl lt) = (most, most_avoids j most last.2 within, omega arith)
      pick (inr le) =
          let w : (cut : List ℕ) × IsAvoiding c test (sum cut) cut × (sum cut + 1 ≡ level) = is.next (omega arith) in
          (w.0, w.1, let e : sum w.0 + 1 ≡ level = w.2 in omega arith)
