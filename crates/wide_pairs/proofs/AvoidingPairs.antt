-- Which pairs are those of avoiding cuts.
use Rattle.std.proofs.Common.{◌≡◌, ◌≢◌, ℕ, zero, suc, ◌+◌, ◌<◌, ◌≤◌, ◌⊎◌, inl, inr, ◌↔◌, min, Bool, false, List, length, get_or, sum, refl, sym, ap, ◌∙◌, subst, arith, add-one}
use Rattle.std.proofs.lemmas.Bool.{cases_eq, cases_lt}
use Rattle.def_model.specs.Cuts.{IsConsistent, IsOfLevel, empty_cut, one_less}
use Rattle.def_model.specs.Events.{Computation}
use Rattle.def_model.specs.Lattice.{IsWithin, meet}
use Rattle.def_model.specs.Observations.{IsAvoiding}
use Rattle.def_model.specs.Order.{HasNoCycle}
use Rattle.def_model.proofs.AvoidingCuts.{all_reached, avoid_by_undoing, avoiding_fails, avoiding_more}
use Rattle.def_model.proofs.Counts.{empty_at, empty_from_sum, less_le, less_other, less_same, same_from_sum, sum_empty, sum_le, sum_less}
use Rattle.def_model.proofs.MeetAndJoin.{length_meet, meet_at, meet_consistent, meet_within_left, meet_within_right, sum_meet_left, within_meet}
use Rattle.def_model.proofs.Paths.{avoiding_level}
use Rattle.def_model.proofs.Steps.{empty_consistent}
use Rattle.def_model.proofs.Undoing.{step_down_from_sum, within_less}
use Rattle.wide_pairs.specs.Avoiding.{CanBeReached, IsAvoidingPair}
use Rattle.wide_pairs.specs.Pairs.{IsOfPair, IsPair}

-- to undo an event takes one from the two counts together at most
less_near : (cut : List ℕ) (p q r : ℕ) → p ≢ q → 0 < get_or cut r 0
    → get_or cut p 0 + get_or cut q 0 ≤ get_or (one_less cut r) p 0 + get_or (one_less cut r) q 0 + 1
less_near cut p q r apart has = go (cases_eq p r) (cases_eq q r)
  where
    here : get_or (one_less cut r) r 0 + 1 ≡ get_or cut r 0
    here = less_same cut r has

    go : (p ≡ r) ⊎ (p ≡ r → ⊥) → (q ≡ r) ⊎ (q ≡ r → ⊥)
        → get_or cut p 0 + get_or cut q 0 ≤ get_or (one_less cut r) p 0 + get_or (one_less cut r) q 0 + 1
    go (inl same) (inl too) = absurd (apart (same ∙ sym too))
    go (inl same) (inr other) =
        let e : get_or (one_less cut r) q 0 ≡ get_or cut q 0 = less_other cut r q other in
        let f : get_or (one_less cut r) p 0 + 1 ≡ get_or cut p 0 =
        subst (λ (k : ℕ). get_or (one_less cut r) k 0 + 1 ≡ get_or cut k 0) (sym same) here in
        omega arith
    go (inr other) (inl same) =
        let e : get_or (one_less cut r) p 0 ≡ get_or cut p 0 = less_other cut r p other in
        let f : get_or (one_less cut r) q 0 + 1 ≡ get_or cut q 0 =
        subst (λ (k : ℕ). get_or (one_less cut r) k 0 + 1 ≡ get_or cut k 0) (sym same) here in
        omega arith
    go (inr other) (inr too) =
        let e : get_or (one_less cut r) p 0 ≡ get_or cut p 0 = less_other cut r p other in
        let f : get_or (one_less cut r) q 0 ≡ get_or cut q 0 = less_other cut r q too in
        omega arith

module _ (c : Computation) (acyclic : HasNoCycle c) (test : List ℕ → Bool) (good : ℕ → ℕ → Bool) (p q : ℕ)
    (apart : p ≢ q) (of : IsOfPair c test good p q) where
  consistent_of : (cut : List ℕ) → IsAvoiding c test (sum cut) cut → IsConsistent c cut
  consistent_of cut avoids = (avoiding_level c test (sum cut) cut avoids).0

  -- the pair of an avoiding cut isn't good
  pub pair_fails : (cut : List ℕ) → IsAvoiding c test (sum cut) cut → good (get_or cut p 0) (get_or cut q 0) ≡ false
  pair_fails cut avoids =
      sym (of cut (consistent_of cut avoids)) ∙ avoiding_fails c test (sum cut) cut avoids

  -- a cut of the same pair isn't good either
  same_fails : (i j k l : ℕ) → i ≡ k → j ≡ l → good k l ≡ false → good i j ≡ false
  same_fails i j k l same too fails = ap (λ (n : ℕ). good n j) same ∙ ap (λ (n : ℕ). good k n) too ∙ fails

  -- A consistent cut avoids if an avoiding one is within it, its pair isn't good, and it has at most one event more of
  -- the two processes.
  grow_avoids : (n : ℕ) (low cut : List ℕ) → sum cut < n → IsAvoiding c test (sum low) low → IsConsistent c cut
      → IsWithin low cut → good (get_or cut p 0) (get_or cut q 0) ≡ false
      → get_or cut p 0 + get_or cut q 0 ≤ get_or low p 0 + get_or low q 0 + 1 → IsAvoiding c test (sum cut) cut
  grow_avoids zero low cut lt avoids ok within fails near = absurd (omega arith)
  grow_avoids (suc n) low cut lt avoids ok within fails near =
      go (grow_avoids n low) (cases_lt (sum low) (sum cut))
    where
      go : ((other : List ℕ) → sum other < n → IsAvoiding c test (sum low) low → IsConsistent c other
          → IsWithin low other → good (get_or other p 0) (get_or other q 0) ≡ false
          → get_or other p 0 + get_or other q 0 ≤ get_or low p 0 + get_or low q 0 + 1
          → IsAvoiding c test (sum other) other) → (sum low < sum cut) ⊎ (sum cut ≤ sum low)
          → IsAvoiding c test (sum cut) cut
      go rest (inr le) =
          let l : length low ≡ length cut = (consistent_of low avoids).fits.one_each ∙ sym ok.fits.one_each in
          let up : sum low ≤ sum cut = sum_le low cut within l in
          subst (λ (x : List ℕ). IsAvoiding c test (sum x) x) (same_from_sum low cut l within (omega arith)) avoids
      go rest (inl less) =
          step (step_down_from_sum c acyclic low cut (consistent_of low avoids) ok within less)
        where
          step : (r : ℕ) × (r < length cut) × (get_or low r 0 < get_or cut r 0) × IsConsistent c (one_less cut r)
              → IsAvoiding c test (sum cut) cut
          step (r, there, outside, undone) =
              avoiding_more c test cut r ok (of cut ok ∙ fails) (
                has,
                rest (one_less cut r) (let s : sum (one_less cut r) + 1 ≡ sum cut = sum_less cut r has in omega arith)
                    avoids undone below (less_fails (cases_eq p r) (cases_eq q r)) less_near_too,
              )
            where
              has : 0 < get_or cut r 0
              has = omega arith

              below : IsWithin low (one_less cut r)
              below = within_less low cut r within outside

              less_near_too : get_or (one_less cut r) p 0 + get_or (one_less cut r) q 0
                  ≤ get_or low p 0 + get_or low q 0 + 1
              less_near_too =
                  let a : get_or (one_less cut r) p 0 ≤ get_or cut p 0 = less_le cut r p has in
                  let b : get_or (one_less cut r) q 0 ≤ get_or cut q 0 = less_le cut r q has in
                  omega arith

              -- one event less of the two, and the pair is the lower cut's
              low_fails : get_or (one_less cut r) p 0 + get_or (one_less cut r) q 0 + 1
                  ≤ get_or cut p 0 + get_or cut q 0
                  → good (get_or (one_less cut r) p 0) (get_or (one_less cut r) q 0) ≡ false
              low_fails fewer =
                  let a : get_or low p 0 ≤ get_or (one_less cut r) p 0 = below p in
                  let b : get_or low q 0 ≤ get_or (one_less cut r) q 0 = below q in
                  same_fails (get_or (one_less cut r) p 0) (get_or (one_less cut r) q 0) (get_or low p 0)
                  (get_or low q 0) (omega arith) (omega arith) (pair_fails low avoids)

              less_fails : (p ≡ r) ⊎ (p ≡ r → ⊥) → (q ≡ r) ⊎ (q ≡ r → ⊥)
                  → good (get_or (one_less cut r) p 0) (get_or (one_less cut r) q 0) ≡ false
              less_fails (inl same) x =
                  let e : get_or (one_less cut r) p 0 + 1 ≡ get_or cut p 0 =
                  subst (λ (k : ℕ). get_or (one_less cut r) k 0 + 1 ≡ get_or cut k 0) (sym same) (less_same cut r has)
                  in
                  let b : get_or (one_less cut r) q 0 ≤ get_or cut q 0 = less_le cut r q has in
                  low_fails (omega arith)
              less_fails (inr other) (inl same) =
                  let e : get_or (one_less cut r) q 0 + 1 ≡ get_or cut q 0 =
                  subst (λ (k : ℕ). get_or (one_less cut r) k 0 + 1 ≡ get_or cut k 0) (sym same) (less_same cut r has)
                  in
                  let b : get_or (one_less cut r) p 0 ≤ get_or cut p 0 = less_le cut r p has in
                  low_fails (omega arith)
              less_fails (inr other) (inr too) =
                  same_fails (get_or (one_less cut r) p 0) (get_or (one_less cut r) q 0) (get_or cut p 0)
                  (get_or cut q 0) (less_other cut r p other) (less_other cut r q too) fails

  -- the counts of p and q in the meet with a cut that has as many events of both
  meet_pair : (cut above : List ℕ) (r : ℕ) → get_or cut r 0 ≤ get_or above r 0
      → get_or (meet cut above) r 0 ≡ get_or cut r 0
  meet_pair cut above r le =
      let at : get_or (meet cut above) r 0 ≡ min (get_or cut r 0) (get_or above r 0) = meet_at cut above r in
      omega arith

  -- an avoiding cut's meet with a cut that has as many events of both avoids
  meet_avoids : (k : ℕ) (cut above : List ℕ) → IsAvoiding c test k cut → IsConsistent c above
      → get_or cut p 0 ≤ get_or above p 0 → get_or cut q 0 ≤ get_or above q 0
      → IsAvoiding c test (sum (meet cut above)) (meet cut above)
  meet_avoids zero cut above avoids ok at_p at_q =
      subst (λ (x : List ℕ). IsAvoiding c test (sum x) x) (sym same)
      (subst (λ (n : ℕ). IsAvoiding c test n cut) (sym level.1) avoids)
    where
      level : IsOfLevel c 0 cut
      level = avoiding_level c test 0 cut avoids

      same : meet cut above ≡ cut
      same =
          let s : sum cut ≡ 0 = level.1 in
          let l : length (meet cut above) ≡ length cut =
          length_meet cut above (level.0.fits.one_each ∙ sym ok.fits.one_each) in
          let m : sum (meet cut above) ≤ sum cut = sum_meet_left c cut above level.0 ok in
          same_from_sum (meet cut above) cut l (meet_within_left cut above) (omega arith)
  meet_avoids (suc k) cut above avoids ok at_p at_q =
      grow_avoids (suc (sum (meet cut above))) (meet old above) (meet cut above) (omega arith)
      (meet_avoids k old above w.2.3 ok old_p old_q) (meet_consistent c cut above w.0.0 ok) up
      (same_fails (get_or (meet cut above) p 0) (get_or (meet cut above) q 0) (get_or cut p 0) (get_or cut q 0)
      (meet_pair cut above p at_p) (meet_pair cut above q at_q)
      (sym (of cut w.0.0) ∙ w.1))
      (let a : get_or (meet cut above) p 0 ≡ get_or cut p 0 = meet_pair cut above p at_p in
      let b : get_or (meet cut above) q 0 ≡ get_or cut q 0 = meet_pair cut above q at_q in
      let d : get_or (meet old above) p 0 ≡ get_or old p 0 = meet_pair old above p old_p in
      let e : get_or (meet old above) q 0 ≡ get_or old q 0 = meet_pair old above q old_q in
      let near : get_or cut p 0 + get_or cut q 0 ≤ get_or old p 0 + get_or old q 0 + 1 =
      less_near cut p q w.2.0 apart w.2.2 in
      omega arith)
    where
      w : IsOfLevel c (k + 1) cut × (test cut ≡ false)
          × ((r : ℕ) × (r < length cut) × (0 < get_or cut r 0) × IsAvoiding c test k (one_less cut r))
      w = (avoid_by_undoing c test k cut).0 (subst (λ (m : ℕ). IsAvoiding c test m cut) (sym (add-one k)) avoids)

      old : List ℕ
      old = one_less cut w.2.0

      old_p : get_or old p 0 ≤ get_or above p 0
      old_p = let a : get_or old p 0 ≤ get_or cut p 0 = less_le cut w.2.0 p w.2.2 in omega arith

      old_q : get_or old q 0 ≤ get_or above q 0
      old_q = let a : get_or old q 0 ≤ get_or cut q 0 = less_le cut w.2.0 q w.2.2 in omega arith

      up : IsWithin (meet old above) (meet cut above)
      up =
          within_meet cut above (meet old above) (λ r.
          let a : get_or (meet old above) r 0 ≤ get_or old r 0 = meet_within_left old above r in
          let b : get_or old r 0 ≤ get_or cut r 0 = less_le cut w.2.0 r w.2.2 in
          omega arith) (meet_within_right old above)

  -- A consistent cut avoids if its pair isn't good, and has at most one event more than an avoiding cut's.
  pub above_avoids : (cut above : List ℕ) → IsAvoiding c test (sum cut) cut → IsConsistent c above
      → get_or cut p 0 ≤ get_or above p 0 → get_or cut q 0 ≤ get_or above q 0
      → good (get_or above p 0) (get_or above q 0) ≡ false
      → get_or above p 0 + get_or above q 0 ≤ get_or cut p 0 + get_or cut q 0 + 1
      → IsAvoiding c test (sum above) above
  above_avoids cut above avoids ok at_p at_q fails near =
      grow_avoids (suc (sum above)) (meet cut above) above (omega arith)
      (meet_avoids (sum cut) cut above avoids ok at_p at_q) ok (meet_within_right cut above) fails
      (let a : get_or (meet cut above) p 0 ≡ get_or cut p 0 = meet_pair cut above p at_p in
      let b : get_or (meet cut above) q 0 ≡ get_or cut q 0 = meet_pair cut above q at_q in
      omega arith)

  pub avoids_by_pair : (cut : List ℕ) → IsConsistent c cut → IsAvoiding c test (sum cut) cut
      ↔ IsAvoidingPair c test p q (get_or cut p 0) (get_or cut q 0)
  avoids_by_pair cut ok = (λ avoids. (cut, avoids, refl, refl), from)
    where
      from : IsAvoidingPair c test p q (get_or cut p 0) (get_or cut q 0) → IsAvoiding c test (sum cut) cut
      from (other, avoids, at_p, at_q) =
          above_avoids other cut avoids ok (omega arith) (omega arith)
          (same_fails (get_or cut p 0) (get_or cut q 0) (get_or other p 0) (get_or other q 0) (sym at_p) (sym at_q)
          (pair_fails other avoids)) (omega arith)

  -- an avoiding cut's pair is the beginning, or next to another's
  reached_by : (k : ℕ) (cut : List ℕ) → IsAvoiding c test k cut
      → CanBeReached c test p q (get_or cut p 0) (get_or cut q 0)
  reached_by zero cut avoids = inl (none p, none q)
    where
      none : (r : ℕ) → get_or cut r 0 ≡ 0
      none r =
          let level : IsOfLevel c 0 cut = avoiding_level c test 0 cut avoids in
          ap (λ (xs : List ℕ). get_or xs r 0) (empty_from_sum c cut level.0.fits.one_each level.1) ∙ empty_at c r
  reached_by (suc k) cut avoids = go (cases_eq p w.2.0) (cases_eq q w.2.0) (reached_by k (one_less cut w.2.0) w.2.3)
    where
      w : IsOfLevel c (k + 1) cut × (test cut ≡ false)
          × ((r : ℕ) × (r < length cut) × (0 < get_or cut r 0) × IsAvoiding c test k (one_less cut r))
      w = (avoid_by_undoing c test k cut).0 (subst (λ (m : ℕ). IsAvoiding c test m cut) (sym (add-one k)) avoids)

      old : List ℕ
      old = one_less cut w.2.0

      old_avoids : IsAvoiding c test (sum old) old
      old_avoids =
          subst (λ (n : ℕ). IsAvoiding c test n old) (sym (avoiding_level c test k old w.2.3).1) w.2.3

      here : get_or old w.2.0 0 + 1 ≡ get_or cut w.2.0 0
      here = less_same cut w.2.0 w.2.2

      go : (p ≡ w.2.0) ⊎ (p ≡ w.2.0 → ⊥) → (q ≡ w.2.0) ⊎ (q ≡ w.2.0 → ⊥)
          → CanBeReached c test p q (get_or old p 0) (get_or old q 0)
          → CanBeReached c test p q (get_or cut p 0) (get_or cut q 0)
      go (inl same) (inl too) r = absurd (apart (same ∙ sym too))
      go (inl same) (inr other) r =
          let e : get_or old p 0 + 1 ≡ get_or cut p 0 =
          subst (λ (n : ℕ). get_or old n 0 + 1 ≡ get_or cut n 0) (sym same) here in
          inr (inl (omega arith, (old, old_avoids, omega arith, less_other cut w.2.0 q other)))
      go (inr other) (inl same) r =
          let e : get_or old q 0 + 1 ≡ get_or cut q 0 =
          subst (λ (n : ℕ). get_or old n 0 + 1 ≡ get_or cut n 0) (sym same) here in
          inr (inr (omega arith, (old, old_avoids, less_other cut w.2.0 p other, omega arith)))
      go (inr other) (inr too) r =
          subst (λ (n : ℕ). CanBeReached c test p q n (get_or cut q 0)) (less_other cut w.2.0 p other)
          (subst (λ (n : ℕ). CanBeReached c test p q (get_or old p 0) n) (less_other cut w.2.0 q too) r)

  pub avoids_by_neighbor : (i j : ℕ) → IsAvoidingPair c test p q i j
      ↔ (IsPair c p q i j × (good i j ≡ false) × CanBeReached c test p q i j)
  avoids_by_neighbor i j = (to, from)
    where
      to : IsAvoidingPair c test p q i j → IsPair c p q i j × (good i j ≡ false) × CanBeReached c test p q i j
      to (cut, avoids, at_p, at_q) = (
        (cut, consistent_of cut avoids, at_p, at_q),
        same_fails i j (get_or cut p 0) (get_or cut q 0) (sym at_p) (sym at_q) (pair_fails cut avoids),
        subst (λ (n : ℕ). CanBeReached c test p q n j) at_p
            (subst (λ (n : ℕ). CanBeReached c test p q (get_or cut p 0) n) at_q (reached_by (sum cut) cut avoids)),
      )

      from : IsPair c p q i j × (good i j ≡ false) × CanBeReached c test p q i j → IsAvoidingPair c test p q i j
      from ((cut, ok, at_p, at_q), fails, inl (none, none_too)) = (
        empty_cut c,
        all_reached c acyclic test (sum (empty_cut c))
            (λ k other lt at. absurd (let s : sum (empty_cut c) ≡ 0 = sum_empty c in omega arith)) (empty_cut c)
            (empty_consistent c, refl)
            (of (empty_cut c) (empty_consistent c)
            ∙ same_fails (get_or (empty_cut c) p 0) (get_or (empty_cut c) q 0) i j (empty_at c p ∙ sym none)
            (empty_at c q ∙ sym none_too) fails),
        empty_at c p ∙ sym none,
        empty_at c q ∙ sym none_too,
      )
      from ((cut, ok, at_p, at_q), fails, inr (inl (has, (old, avoids, old_p, old_q)))) = (
        cut,
        above_avoids old cut avoids ok (omega arith) (omega arith)
            (same_fails (get_or cut p 0) (get_or cut q 0) i j at_p at_q fails) (omega arith),
        at_p,
        at_q,
      )
      from ((cut, ok, at_p, at_q), fails, inr (inr (has, (old, avoids, old_p, old_q)))) = (
        cut,
        above_avoids old cut avoids ok (omega arith) (omega arith)
            (same_fails (get_or cut p 0) (get_or cut q 0) i j at_p at_q fails) (omega arith),
        at_p,
        at_q,
      )
