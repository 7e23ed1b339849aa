-- Which cuts avoid where a cut satisfies exactly if some process is at a good count.
use Rattle.std.proofs.Common.{◌≡◌, ℕ, zero, suc, ◌+◌, ◌-◌, ◌<◌, ◌≤◌, Bool, true, false, List, length, get_or, sum, refl, sym, ap, ◌∙◌, subst, inl, inr, ◌⊎◌, arith, add-one}
use Rattle.std.proofs.lemmas.Bool.{cases_eq, cases_lt, false≢true}
use Rattle.def_model.specs.Events.{Computation, event_count}
use Rattle.def_model.specs.Order.{HasNoCycle}
use Rattle.def_model.specs.Cuts.{IsConsistent, IsOfLevel, full_cut, one_less, total}
use Rattle.def_model.specs.Lattice.{IsWithin}
use Rattle.def_model.specs.Observations.{HasNoAvoiding, IsAvoiding}
use Rattle.def_model.proofs.AvoidingCuts.{avoid_at_first_hit, avoid_by_undoing, avoiding_fails}
use Rattle.def_model.proofs.Counts.{empty_at, empty_from_sum, full_at, in_range, length_less, less_le, less_other, less_same, sum_le, sum_less}
use Rattle.def_model.proofs.Paths.{avoiding_level, free_level_decides}
use Rattle.def_model.proofs.Steps.{can_undo, full_from_sum, sum_within}
use Rattle.def_model.proofs.WalkSteps.{avoiding_below}
use Rattle.wide_conjunctions.specs.Clauses.{AvoidsBeforeGood, FreeAfterMost, FreeAtFirst, IsBeforeGood, IsClause, NoneIfFull}

-- to undo an event leaves a count no less than a number that isn't the last
still_there : (cut : List ℕ) (q p n : ℕ) → 0 < get_or cut q 0 → n < get_or cut p 0 → n ≤ get_or (one_less cut q) p 0
still_there cut q p n has low = go (cases_eq p q)
  where
    go : (p ≡ q) ⊎ (p ≡ q → ⊥) → n ≤ get_or (one_less cut q) p 0
    go (inl same) =
        let at : get_or (one_less cut q) q 0 + 1 ≡ get_or cut q 0 = less_same cut q has in
        let here : get_or (one_less cut q) p 0 ≡ get_or (one_less cut q) q 0 =
        ap (λ (i : ℕ). get_or (one_less cut q) i 0) same in
        let there : get_or cut p 0 ≡ get_or cut q 0 = ap (λ (i : ℕ). get_or cut i 0) same in
        omega arith
    go (inr apart) = let at : get_or (one_less cut q) p 0 ≡ get_or cut p 0 = less_other cut q p apart in omega arith

module _ (c : Computation) (test : List ℕ → Bool) (good : ℕ → ℕ → Bool) (clause : IsClause c test good) where
  -- in a cut that doesn't satisfy no process is at a good count
  not_good : (cut : List ℕ) → IsConsistent c cut → test cut ≡ false → (p : ℕ) → p < length cut
      → good p (get_or cut p 0) ≡ false
  not_good cut ok fails p lt = go (good p (get_or cut p 0)) refl
    where
      go : (b : Bool) → good p (get_or cut p 0) ≡ b → good p (get_or cut p 0) ≡ false
      go false is = is
      go true is = absurd (false≢true (sym fails ∙ (clause cut ok).1 (p, lt, is)))

  -- and a cut in which none has come to one doesn't satisfy
  fails_before : (cut : List ℕ) → IsConsistent c cut → IsBeforeGood good cut → test cut ≡ false
  fails_before cut ok before = go (test cut) refl
    where
      go : (b : Bool) → test cut ≡ b → test cut ≡ false
      go false is = is
      go true is =
          let w : (p : ℕ) × (p < length cut) × (good p (get_or cut p 0) ≡ true) = (clause cut ok).0 is in
          absurd (false≢true (sym (before w.0 (get_or cut w.0 0) w.1 (omega arith)) ∙ w.2))

  -- in an avoiding cut no process has come to a good count
  pub before_avoiding : (k : ℕ) (cut : List ℕ) → IsAvoiding c test k cut → IsBeforeGood good cut
  before_avoiding zero cut a p n lt le =
      let level : IsOfLevel c 0 cut = avoiding_level c test 0 cut a in
      let none : get_or cut p 0 ≡ 0 =
      ap (λ (xs : List ℕ). get_or xs p 0) (empty_from_sum c cut level.0.fits.one_each level.1) ∙ empty_at c p in
      let same : get_or cut p 0 ≡ n = omega arith in
      subst (λ (m : ℕ). good p m ≡ false) same (not_good cut level.0 (avoiding_fails c test 0 cut a) p lt)
  before_avoiding (suc k) cut a p n lt le =
      go (λ other fewer many there. before_avoiding k other fewer p n many there) (cases_lt n (get_or cut p 0))
    where
      w : IsOfLevel c (k + 1) cut × (test cut ≡ false)
          × ((q : ℕ) × (q < length cut) × (0 < get_or cut q 0) × IsAvoiding c test k (one_less cut q))
      w = (avoid_by_undoing c test k cut).0 (subst (λ (m : ℕ). IsAvoiding c test m cut) (sym (add-one k)) a)

      go : ((other : List ℕ) → IsAvoiding c test k other → p < length other → n ≤ get_or other p 0
          → good p n ≡ false) → (n < get_or cut p 0) ⊎ (get_or cut p 0 ≤ n) → good p n ≡ false
      go fewer (inr high) =
          let same : get_or cut p 0 ≡ n = omega arith in
          subst (λ (m : ℕ). good p m ≡ false) same (not_good cut w.0.0 w.1 p lt)
      go fewer (inl low) =
          let many : length (one_less cut w.2.0) ≡ length cut = length_less cut w.2.0 in
          fewer (one_less cut w.2.0) w.2.3 (omega arith) (still_there cut w.2.0 p n w.2.2 low)

  -- and each cut of which that is true avoids
  pub avoiding_before : HasNoCycle c → (k : ℕ) (cut : List ℕ) → IsOfLevel c k cut → IsBeforeGood good cut
      → IsAvoiding c test k cut
  avoiding_before acyclic zero cut level before =
      (avoid_at_first_hit c acyclic test 0 (λ j other lt at. absurd (omega arith)) cut).1
      (level, fails_before cut level.0 before)
  avoiding_before acyclic (suc k) cut level before =
      subst (λ (m : ℕ). IsAvoiding c test m cut) (add-one k)
      ((avoid_by_undoing c test k cut).1 (
        subst (λ (m : ℕ). IsOfLevel c m cut) (sym (add-one k)) level,
        fails_before cut level.0 before,
        (u.0, in_range cut u.0 u.1, u.1, avoiding_before acyclic k (one_less cut u.0) (u.2, fewer) below),
      ))
    where
      u : (p : ℕ) × (0 < get_or cut p 0) × IsConsistent c (one_less cut p)
      u = let s : sum cut ≡ suc k = level.1 in can_undo c acyclic cut level.0 (omega arith)

      fewer : sum (one_less cut u.0) ≡ k
      fewer =
          let s : sum cut ≡ suc k = level.1 in
          let t : sum (one_less cut u.0) + 1 ≡ sum cut = sum_less cut u.0 u.1 in
          omega arith

      below : IsBeforeGood good (one_less cut u.0)
      below q n lt le =
          let many : length (one_less cut u.0) ≡ length cut = length_less cut u.0 in
          let least : get_or (one_less cut u.0) q 0 ≤ get_or cut q 0 = less_le cut u.0 q u.1 in
          before q n (omega arith) (omega arith)

pub avoids_before_good : AvoidsBeforeGood
avoids_before_good c acyclic test good clause k cut = (
  λ a. (avoiding_level c test k cut a, before_avoiding c test good clause k cut a),
  λ w. avoiding_before c test good clause acyclic k cut w.0 w.1,
)

pub free_after_most : FreeAfterMost
free_after_most c acyclic test good clause cut most = (
  record { none = none; below = below },
  λ some. free_level_decides c test (sum cut + 1) (omega arith) none,
)
  where
    none : HasNoAvoiding c test (sum cut + 1)
    none other a =
        let level : IsOfLevel c (sum cut + 1) other = avoiding_level c test (sum cut + 1) other a in
        let within : IsWithin other cut =
        most.most other level.0 (before_avoiding c test good clause (sum cut + 1) other a) in
        let fewer : sum other ≤ sum cut =
        sum_le other cut within (level.0.fits.one_each ∙ sym most.consistent.fits.one_each) in
        let at : sum other ≡ sum cut + 1 = level.1 in
        omega arith

    below : (j : ℕ) → j < sum cut + 1 → (other : List ℕ) × IsAvoiding c test j other
    below j lt =
        let up : sum cut ≡ sum cut - j + j = omega arith in
        avoiding_below c test j (sum cut - j) cut
        (subst (λ (m : ℕ). IsAvoiding c test m cut) up
        (avoiding_before c test good clause acyclic (sum cut) cut (most.consistent, refl) most.before))

pub free_at_first : FreeAtFirst
free_at_first c test good clause (p, lt, is) = (
  record { none = none; below = λ j less. absurd (omega arith) },
  free_level_decides c test 0 (omega arith) none,
)
  where
    none : HasNoAvoiding c test 0
    none cut a =
        let level : IsOfLevel c 0 cut = avoiding_level c test 0 cut a in
        let many : length cut ≡ length c = level.0.fits.one_each in
        false≢true (sym (before_avoiding c test good clause 0 cut a p 0 (omega arith) (omega arith)) ∙ is)

pub none_if_full : NoneIfFull
none_if_full c test good clause cut most all (other, ok, passes) =
    let w : (p : ℕ) × (p < length other) × (good p (get_or other p 0) ≡ true) = (clause other ok).0 passes in
    let most_there : sum cut ≤ total c = sum_within c cut most.consistent in
    let full : cut ≡ full_cut c = full_from_sum c cut most.consistent (omega arith) in
    let at : get_or cut w.0 0 ≡ event_count c w.0 = ap (λ (xs : List ℕ). get_or xs w.0 0) full ∙ full_at c w.0 in
    let many : length cut ≡ length c = most.consistent.fits.one_each in
    let same : length other ≡ length c = ok.fits.one_each in
    let within : get_or other w.0 0 ≤ event_count c w.0 = ok.fits.within w.0 in
    let lt : w.0 < length other = w.1 in
    false≢true (sym (most.before w.0 (get_or other w.0 0) (omega arith) (omega arith)) ∙ w.2)
