-- The level after the greatest cut that lacks a count of the least box.
use Rattle.std.proofs.Common.{◌≡◌, ℕ, zero, suc, ◌+◌, ◌-◌, ◌<◌, ◌≤◌, Bool, true, false, max, ◌&&◌, nat_eq, nat_le, List, length, get_or, sum, refl, sym, ap, ◌∙◌, subst, inl, inr, ◌⊎◌, arith}
use Rattle.std.proofs.lemmas.Bool.{and_from, cases_eq, cases_lt, eq-eqb, eqb-true, false≢true, le-leb, lt-leb}
use Rattle.def_model.specs.Events.{Computation, IsEvent, event_count}
use Rattle.def_model.specs.Order.{HasNoCycle}
use Rattle.def_model.specs.Cuts.{IsConsistent, IsOfLevel, full_cut, one_less, total}
use Rattle.def_model.specs.Lattice.{IsWithin}
use Rattle.def_model.specs.Observations.{HasNoAvoiding, IsAvoiding}
use Rattle.def_model.proofs.Chains.{events_of_happens}
use Rattle.def_model.proofs.Counts.{empty_at, empty_from_sum, full_at, in_range, length_less, less_le, less_other, length_full, less_same, sum_le, sum_less}
use Rattle.def_model.proofs.Decisions.{dec_less, dec_some}
use Rattle.def_model.proofs.Paths.{avoiding_level, definite_is_free, free_level_decides}
use Rattle.def_model.proofs.Steps.{can_undo, full_from_sum}
use Rattle.def_model.proofs.WalkSteps.{avoiding_below}
use Rattle.wide_conjunctions.specs.Clauses.{IsMostBefore}
use Rattle.wide_conjunctions.specs.Boxes.{FreeAfterBox, HasNoBox, IsBox, IsLeastBox, IsLevelAfter, IsMostWithout, IsRaisedLevel, NotWithoutBox, counts_from}
use Rattle.wide_conjunctions.proofs.BoxSteps.{apart_counts, avoiding_no_box, box_in_less, is_last, no_box_avoiding}

-- a consistent cut is within the full one
pub within_full : (c : Computation) (cut : List ℕ) → IsConsistent c cut → IsWithin cut (full_cut c)
within_full c cut ok p =
    let a : get_or cut p 0 ≤ event_count c p = ok.fits.within p in
    let b : get_or (full_cut c) p 0 ≡ event_count c p = full_at c p in
    omega arith

-- the cut with all events is consistent
pub full_consistent : (c : Computation) → IsConsistent c (full_cut c)
full_consistent c =
    record {
      fits = record { one_each = length_full c; within = λ p. rw full_at (omega arith) };
      closed = λ e f h i. let is : IsEvent c e = (events_of_happens c e f h).0 in (is.0, rw full_at (is.1));
    }

-- on the way to a cut a process comes to each of its counts
count_there : (c : Computation) → HasNoCycle c → (k : ℕ) (cut : List ℕ) → IsOfLevel c k cut → (p m : ℕ)
    → m ≤ get_or cut p 0 → (x : List ℕ) × IsConsistent c x × (get_or x p 0 ≡ m)
count_there c acyclic zero cut level p m le =
    let none : get_or cut p 0 ≡ 0 =
    ap (λ (xs : List ℕ). get_or xs p 0) (empty_from_sum c cut level.0.fits.one_each level.1) ∙ empty_at c p in
    (cut, level.0, omega arith)
count_there c acyclic (suc k) cut level p m le =
    go (λ other at more. count_there c acyclic k other at p m more) (cases_lt m (get_or cut p 0))
  where
    u : (q : ℕ) × (0 < get_or cut q 0) × IsConsistent c (one_less cut q)
    u = let s : sum cut ≡ suc k = level.1 in can_undo c acyclic cut level.0 (omega arith)

    fewer : sum (one_less cut u.0) ≡ k
    fewer =
        let s : sum cut ≡ suc k = level.1 in
        let t : sum (one_less cut u.0) + 1 ≡ sum cut = sum_less cut u.0 u.1 in
        omega arith

    still : m < get_or cut p 0 → (get_or (one_less cut u.0) p 0 < m) ⊎ (m ≤ get_or (one_less cut u.0) p 0)
        → m ≤ get_or (one_less cut u.0) p 0
    still low (inr high) = high
    still low (inl more) =
        let last : (p ≡ u.0) × (m ≡ get_or cut u.0 0) = is_last cut u.0 p m u.1 more le in
        let a : get_or cut p 0 ≡ get_or cut u.0 0 = ap (λ (i : ℕ). get_or cut i 0) last.0 in
        let b : m ≡ get_or cut u.0 0 = last.1 in
        absurd (omega arith)

    go : ((other : List ℕ) → IsOfLevel c k other → m ≤ get_or other p 0
        → (x : List ℕ) × IsConsistent c x × (get_or x p 0 ≡ m)) → (m < get_or cut p 0) ⊎ (get_or cut p 0 ≤ m)
        → (x : List ℕ) × IsConsistent c x × (get_or x p 0 ≡ m)
    go below (inr ge) = (cut, level.0, omega arith)
    go below (inl low) =
        below (one_less cut u.0) (u.2, fewer) (still low (cases_lt (get_or (one_less cut u.0) p 0) m))

module _ (c : Computation) (good : ℕ → ℕ → Bool) (box : List ℕ) (is_least : IsLeastBox c good box) where
  there : IsBox c good (full_cut c) box
  there = is_least.box_there

  -- a count less would be a box too if it were good
  module _ (p : ℕ) (has : 0 < get_or box p 0) (good_less : good p (get_or box p 0 - 1) ≡ true) where
    less_good : (q : ℕ) → q < length (one_less box p) → good q (get_or (one_less box p) q 0) ≡ true
    less_good q lt = go (cases_eq q p)
      where
        go : (q ≡ p) ⊎ (q ≡ p → ⊥) → good q (get_or (one_less box p) q 0) ≡ true
        go (inl same) =
            let a : get_or (one_less box p) p 0 + 1 ≡ get_or box p 0 = less_same box p has in
            let b : get_or (one_less box p) p 0 ≡ get_or box p 0 - 1 = omega arith in
            subst (λ (i : ℕ). good i (get_or (one_less box p) i 0) ≡ true) (sym same)
            (ap (λ (n : ℕ). good p n) b ∙ good_less)
        go (inr apart) =
            let a : length (one_less box p) ≡ length box = length_less box p in
            ap (λ (n : ℕ). good q n) (less_other box p q apart) ∙ there.good_there q (omega (arith, a, lt))

    less_after : (q m : ℕ) → get_or (one_less box p) q 0 < m → good q m ≡ false
        → (get_or box q 0 < m) ⊎ (m ≤ get_or box q 0) → get_or box q 0 < m
    less_after q m after bad (inl low) = low
    less_after q m after bad (inr high) =
        let last : (q ≡ p) × (m ≡ get_or box p 0) = is_last box p q m has after high in
        let a : get_or box q 0 ≡ get_or box p 0 = ap (λ (i : ℕ). get_or box i 0) last.0 in
        let b : m ≡ get_or box p 0 = last.1 in
        absurd (apart_counts c good box q m (in_range box q (omega (arith, a, b, has))) there.good_there bad
        (omega (arith, a, b)))

    less_is_box : IsBox c good (full_cut c) (one_less box p)
    less_is_box = record {
      one_each = length_less box p ∙ there.one_each;
      within = λ q.
          let a : get_or (one_less box p) q 0 ≤ get_or box q 0 = less_le box p q has in
          let b : get_or box q 0 ≤ get_or (full_cut c) q 0 = there.within q in
          omega arith;
      good_there = less_good;
      together = λ q m after le bad x ok at r.
          let a : get_or (one_less box p) r 0 ≤ get_or box r 0 = less_le box p r has in
          let b : get_or box r 0 ≤ get_or x r 0 =
          there.together q m (less_after q m after bad (cases_lt (get_or box q 0) m)) le bad x ok at r in
          omega (arith, a, b);
    }

    never_less : ⊥
    never_less =
        let a : get_or (one_less box p) p 0 + 1 ≡ get_or box p 0 = less_same box p has in
        let b : get_or box p 0 ≤ get_or (one_less box p) p 0 = is_least.least (one_less box p) less_is_box p in
        omega arith

  -- each count of the least box begins an interval
  begins : (p : ℕ) → 0 < get_or box p 0 → good p (get_or box p 0 - 1) ≡ false
  begins p has = go (good p (get_or box p 0 - 1)) refl
    where
      go : (b : Bool) → good p (get_or box p 0 - 1) ≡ b → good p (get_or box p 0 - 1) ≡ false
      go false e = e
      go true e = absurd (never_less p has e)

  -- there is no box in the greatest cut that lacks one of the counts
  module _ (acyclic : HasNoCycle c) (full_ok : IsConsistent c (full_cut c)) (p : ℕ) (has : 0 < get_or box p 0)
      (cut : List ℕ) (most : IsMostWithout c p (get_or box p 0) cut) where
    comes_to : get_or box p 0 - 1 ≤ get_or cut p 0
    comes_to =
        let a : get_or box p 0 ≤ get_or (full_cut c) p 0 = there.within p in
        let w : (x : List ℕ) × IsConsistent c x × (get_or x p 0 ≡ get_or box p 0 - 1) =
        count_there c acyclic (total c) (full_cut c) (full_ok, refl) p (get_or box p 0 - 1) (omega arith) in
        let e : get_or w.0 p 0 ≡ get_or box p 0 - 1 = w.2 in
        let b : get_or w.0 p 0 ≤ get_or cut p 0 = most.most w.0 w.1 (omega (arith, e, has)) p in
        omega (arith, e, b)

    module _ (other : List ℕ) (is : IsBox c good cut other) where
      before_bad : get_or other p 0 < get_or box p 0 - 1
      before_bad = go (cases_lt (get_or other p 0) (get_or box p 0 - 1))
        where
          go : (get_or other p 0 < get_or box p 0 - 1) ⊎ (get_or box p 0 - 1 ≤ get_or other p 0)
              → get_or other p 0 < get_or box p 0 - 1
          go (inl low) = low
          go (inr high) =
              let a : get_or other p 0 ≤ get_or cut p 0 = is.within p in
              let b : get_or cut p 0 < get_or box p 0 = most.without in
              let l : length other ≡ length c = is.one_each in
              let m : length box ≡ length c = there.one_each in
              let t : p < length box = in_range box p has in
              absurd (apart_counts c good other p (get_or box p 0 - 1) (omega (arith, l, m, t)) is.good_there
              (begins p has) (omega (arith, a, b, high)))

      outside : (q m : ℕ) → get_or cut q 0 < m → (x : List ℕ) → IsConsistent c x → m ≤ get_or x q 0
          → (get_or x p 0 < get_or box p 0) ⊎ (get_or box p 0 ≤ get_or x p 0) → IsWithin other x
      outside q m out x ok at (inl less) =
          let a : get_or x q 0 ≤ get_or cut q 0 = most.most x ok less q in absurd (omega (arith, a, out, at))
      outside q m out x ok at (inr more) =
          is.together p (get_or box p 0 - 1) before_bad comes_to (begins p has) x ok (omega arith)

      together : (q m : ℕ) → get_or other q 0 < m → good q m ≡ false → (x : List ℕ) → IsConsistent c x
          → m ≤ get_or x q 0 → (get_or cut q 0 < m) ⊎ (m ≤ get_or cut q 0) → IsWithin other x
      together q m after bad x ok at (inr inside) = is.together q m after inside bad x ok at
      together q m after bad x ok at (inl out) =
          outside q m out x ok at (cases_lt (get_or x p 0) (get_or box p 0))

      box_in_full : IsBox c good (full_cut c) other
      box_in_full = record {
        one_each = is.one_each;
        within = λ q.
            let a : get_or other q 0 ≤ get_or cut q 0 = is.within q in
            let b : get_or cut q 0 ≤ get_or (full_cut c) q 0 = within_full c cut most.consistent q in
            omega arith;
        good_there = is.good_there;
        together = λ q m after le bad x ok at. together q m after bad x ok at (cases_lt (get_or cut q 0) m);
      }

    none_in_most : HasNoBox c good cut
    none_in_most other is =
        let a : get_or box p 0 ≤ get_or other p 0 = is_least.least other (box_in_full other is) p in
        let b : get_or other p 0 < get_or box p 0 - 1 = before_bad other is in
        omega arith

  -- a cut without a box lacks one of the counts
  lacks : (cut : List ℕ) → IsConsistent c cut → HasNoBox c good cut → (p : ℕ) × (get_or cut p 0 < get_or box p 0)
  lacks cut ok none = go (dec_some (λ p. get_or cut p 0 < get_or box p 0) (λ p.
      dec_less (get_or cut p 0) (get_or box p 0)) (length box))
    where
      go : Dec ((p : ℕ) × (p < length box) × (get_or cut p 0 < get_or box p 0))
          → (p : ℕ) × (get_or cut p 0 < get_or box p 0)
      go (yes (p, lt, less)) = (p, less)
      go (no never) =
          absurd (none box (box_in_less c good cut (full_cut c) box (within_full c cut ok) (λ p.
          within p (cases_lt (get_or cut p 0) (get_or box p 0))) there))
        where
          within : (p : ℕ) → (get_or cut p 0 < get_or box p 0) ⊎ (get_or box p 0 ≤ get_or cut p 0)
              → get_or box p 0 ≤ get_or cut p 0
          within p (inr le) = le
          within p (inl less) = absurd (never (p, in_range box p (omega arith), less))

pub free_after_box : FreeAfterBox
free_after_box c acyclic test good conjunction box least level after = (
  record { none = none; below = below },
  free_level_decides c test (total c) (omega arith) none_of_all,
)
  where
    none : HasNoAvoiding c test level
    none other a =
        let at : IsOfLevel c level other = avoiding_level c test level other a in
        let w : (p : ℕ) × (get_or other p 0 < get_or box p 0) =
        lacks c good box least other at.0 (avoiding_no_box c test good conjunction level other a) in
        let low : get_or other w.0 0 < get_or box w.0 0 = w.1 in
        let most : (cut : List ℕ) × IsMostWithout c w.0 (get_or box w.0 0) cut × (sum cut < level) =
        after.each w.0 (omega arith) in
        let within : IsWithin other most.0 = most.1.most other at.0 low in
        let fewer : sum other ≤ sum most.0 =
        sum_le other most.0 within (at.0.fits.one_each ∙ sym most.1.consistent.fits.one_each) in
        let s : sum other ≡ level = at.1 in
        let t : sum most.0 < level = most.2 in
        omega (arith, fewer, s, t)

    none_of_all : HasNoAvoiding c test (total c)
    none_of_all other a =
        let at : IsOfLevel c (total c) other = avoiding_level c test (total c) other a in
        let same : other ≡ full_cut c = full_from_sum c other at.0 at.1 in
        avoiding_no_box c test good conjunction (total c) other a box
        (subst (λ (cut : List ℕ). IsBox c good cut box) (sym same) least.box_there)

    below : (j : ℕ) → j < level → (other : List ℕ) × IsAvoiding c test j other
    below j lt = go after.some
      where
        go : (level ≡ 0) ⊎ ((p : ℕ) × (0 < get_or box p 0)
            × ((cut : List ℕ) × IsMostWithout c p (get_or box p 0) cut × (level ≡ sum cut + 1)))
            → (other : List ℕ) × IsAvoiding c test j other
        go (inl zero_there) = absurd (omega arith)
        go (inr (p, has, (cut, most, is))) =
            let a : IsAvoiding c test (sum cut) cut =
            no_box_avoiding c test good conjunction acyclic (sum cut) cut (most.consistent, refl)
            (none_in_most c good box least acyclic (full_consistent c) p has cut most) in
            let up : sum cut ≡ sum cut - j + j = omega (arith, is, lt) in
            avoiding_below c test j (sum cut - j) cut (subst (λ (m : ℕ). IsAvoiding c test m cut) up a)

pub not_without_box : NotWithoutBox
not_without_box c acyclic test good conjunction none every =
    definite_is_free c test every (full_cut c)
    (no_box_avoiding c test good conjunction acyclic (total c) (full_cut c) (full_consistent c, refl) none)

-- ---- the level is found process by process

-- the levels of the first processes, this many, are taken in
pub record IsLevelOfFirst (c : Computation) (counts : List ℕ) (many level : ℕ) : Type 0 where
  pub each : (p : ℕ) → p < many → 0 < get_or counts p 0
      → (cut : List ℕ) × IsMostWithout c p (get_or counts p 0) cut × (sum cut < level)
  pub some : (level ≡ 0) ⊎ ((p : ℕ) × (0 < get_or counts p 0)
      × ((cut : List ℕ) × IsMostWithout c p (get_or counts p 0) cut × (level ≡ sum cut + 1)))

pub first_raised : (c : Computation) (counts : List ℕ) (many level new : ℕ) → IsLevelOfFirst c counts many level
    → IsRaisedLevel c many (get_or counts many 0) level new → IsLevelOfFirst c counts (many + 1) new
first_raised c counts many level new first raised =
    record { each = λ p lt has. each p has (cases_lt p many) lt; some = some raised.from_one }
  where
    each : (p : ℕ) → 0 < get_or counts p 0 → (p < many) ⊎ (many ≤ p) → p < many + 1
        → (cut : List ℕ) × IsMostWithout c p (get_or counts p 0) cut × (sum cut < new)
    each p has (inl low) lt =
        let w : (cut : List ℕ) × IsMostWithout c p (get_or counts p 0) cut × (sum cut < level) = first.each p low has in
        let a : level ≤ new = raised.no_less in
        let b : sum w.0 < level = w.2 in
        (w.0, w.1, omega (arith, a, b))
    each p has (inr high) lt =
        let same : many ≡ p = omega (arith, high, lt) in
        subst (λ (i : ℕ). 0 < get_or counts i 0
        → (cut : List ℕ) × IsMostWithout c i (get_or counts i 0) cut × (sum cut < new)) same raised.here has

    some : (new ≡ level) ⊎ ((0 < get_or counts many 0)
        × ((cut : List ℕ) × IsMostWithout c many (get_or counts many 0) cut × (new ≡ sum cut + 1)))
        → (new ≡ 0) ⊎ ((p : ℕ) × (0 < get_or counts p 0)
        × ((cut : List ℕ) × IsMostWithout c p (get_or counts p 0) cut × (new ≡ sum cut + 1)))
    some (inr (has, w)) = inr (many, has, w)
    some (inl same) = again first.some
      where
        again : (level ≡ 0) ⊎ ((p : ℕ) × (0 < get_or counts p 0)
            × ((cut : List ℕ) × IsMostWithout c p (get_or counts p 0) cut × (level ≡ sum cut + 1)))
            → (new ≡ 0) ⊎ ((p : ℕ) × (0 < get_or counts p 0)
            × ((cut : List ℕ) × IsMostWithout c p (get_or counts p 0) cut × (new ≡ sum cut + 1)))
        again (inl none) = inl (same ∙ none)
        again (inr (p, has, (cut, most, is))) = inr (p, has, (cut, most, same ∙ is))

pub raised_by : (c : Computation) (p n old count new : ℕ) (cut : List ℕ) → 0 < n → IsMostWithout c p n cut
    → count ≡ sum cut → new ≡ max old (count + 1) → IsRaisedLevel c p n old new
raised_by c p n old count new cut pos most is at = record {
  no_less = omega arith;
  here = λ _. (cut, most, omega arith);
  from_one = go (cases_lt old (count + 1));
}
  where
    go : (old < count + 1) ⊎ (count + 1 ≤ old)
        → (new ≡ old) ⊎ ((0 < n) × ((other : List ℕ) × IsMostWithout c p n other × (new ≡ sum other + 1)))
    go (inl less) = inr (pos, (cut, most, omega arith))
    go (inr high) = inl (omega arith)

pub level_found : (c : Computation) (counts : List ℕ) (level : ℕ) → IsLevelOfFirst c counts (length counts) level
    → IsLevelAfter c counts level
level_found c counts level first =
    record { each = λ p has. first.each p (in_range counts p has) has; some = first.some }

-- the greatest cut that lacks a count, as the greatest one in which no process has come to a count from it on
pub most_from : (c : Computation) (p n : ℕ) → p < length c → 0 < n → (cut : List ℕ)
    → IsMostBefore c (counts_from p n) cut → IsMostWithout c p n cut
most_from c p n there pos cut most = record {
  consistent = most.consistent;
  without = without (cases_lt (get_or cut p 0) n);
  most = λ other ok less. most.most other ok (λ q m lt le. before other less q m le (cases_eq q p));
}
  where
    in_cut : p < length cut
    in_cut = let l : length cut ≡ length c = most.consistent.fits.one_each in omega (arith, l, there)

    without : (get_or cut p 0 < n) ⊎ (n ≤ get_or cut p 0) → get_or cut p 0 < n
    without (inl less) = less
    without (inr le) =
        absurd (false≢true (sym (most.before p (get_or cut p 0) in_cut (omega arith))
        ∙ and_from (nat_eq p p) (nat_le n (get_or cut p 0)) (eq-eqb p p refl) (le-leb n (get_or cut p 0) le)))

    before : (other : List ℕ) → get_or other p 0 < n → (q m : ℕ) → m ≤ get_or other q 0
        → (q ≡ p) ⊎ (q ≡ p → ⊥) → counts_from p n q m ≡ false
    before other less q m le (inr apart) = ap (λ (b : Bool). b && nat_le n m) (differs (nat_eq q p) refl)
      where
        differs : (b : Bool) → nat_eq q p ≡ b → nat_eq q p ≡ false
        differs false e = e
        differs true e = absurd (apart (eqb-true q p e))
    before other less q m le (inl same) =
        let a : get_or other q 0 ≡ get_or other p 0 = ap (λ (i : ℕ). get_or other i 0) same in
        and_false (nat_eq q p) (nat_le n m) (lt-leb n m (omega (arith, a, le, less)))
      where
        and_false : (a b : Bool) → b ≡ false → (a && b) ≡ false
        and_false true b e = e
        and_false false b e = refl
