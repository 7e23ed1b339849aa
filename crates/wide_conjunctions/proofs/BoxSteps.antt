-- How boxes go from a cut to one with an event less, and back.
use Rattle.std.proofs.Common.{◌≡◌, ◌≢◌, ℕ, zero, suc, ◌+◌, ◌<◌, ◌≤◌, Bool, true, false, min, List, length, get_or, sum, refl, sym, ap, ◌∙◌, subst, inl, inr, ◌⊎◌, arith, add-one}
use Rattle.std.proofs.lemmas.Bool.{cases_eq, cases_lt, false≢true}
use Rattle.def_model.specs.Events.{Computation}
use Rattle.def_model.specs.Order.{HasNoCycle}
use Rattle.def_model.specs.Cuts.{IsConsistent, IsOfLevel, one_less}
use Rattle.def_model.specs.Lattice.{IsWithin, meet}
use Rattle.def_model.specs.Observations.{IsAvoiding}
use Rattle.def_model.proofs.AvoidingCuts.{avoid_at_first_hit, avoid_by_undoing, avoiding_fails}
use Rattle.def_model.proofs.Consistency.{dec_consistent}
use Rattle.def_model.proofs.Counts.{empty_at, empty_from_sum, in_range, less_le, less_other, less_same, sum_less}
use Rattle.def_model.proofs.Decisions.{dec_both, dec_each, dec_less, dec_list, dec_some}
use Rattle.def_model.proofs.MeetAndJoin.{length_meet, meet_at, meet_consistent, meet_within_left, meet_within_right}
use Rattle.def_model.proofs.Paths.{avoiding_level}
use Rattle.def_model.proofs.Steps.{can_undo}
use Rattle.def_model.proofs.Undoing.{step_down}
use Rattle.wide_conjunctions.specs.LeastCuts.{IsGood}
use Rattle.wide_conjunctions.specs.Boxes.{AvoidsWithoutBox, HasBox, HasNoBox, IsBox, IsConjunction, LeavesNoBox}

-- a count that isn't there in the smaller cut is the last of the process that was undone
pub is_last : (cut : List ℕ) (q s n : ℕ) → 0 < get_or cut q 0 → get_or (one_less cut q) s 0 < n → n ≤ get_or cut s 0
    → (s ≡ q) × (n ≡ get_or cut q 0)
is_last cut q s n has more le = go (cases_eq s q)
  where
    go : (s ≡ q) ⊎ (s ≡ q → ⊥) → (s ≡ q) × (n ≡ get_or cut q 0)
    go (inr apart) =
        let t : get_or (one_less cut q) s 0 ≡ get_or cut s 0 = less_other cut q s apart in
        absurd (omega arith)
    go (inl same) =
        let a : get_or (one_less cut q) s 0 ≡ get_or (one_less cut q) q 0 =
        ap (λ (i : ℕ). get_or (one_less cut q) i 0) same in
        let b : get_or cut s 0 ≡ get_or cut q 0 = ap (λ (i : ℕ). get_or cut i 0) same in
        let t : get_or (one_less cut q) q 0 + 1 ≡ get_or cut q 0 = less_same cut q has in
        (same, omega arith)

-- a number is one side of the least of two or the other
min_cases : (a b : ℕ) → (min a b ≡ a) ⊎ (min a b ≡ b)
min_cases a b = go (cases_lt a b)
  where
    go : (a < b) ⊎ (b ≤ a) → (min a b ≡ a) ⊎ (min a b ≡ b)
    go (inl lt) = inl (omega arith)
    go (inr le) = inr (omega arith)

dec_differ : (a b : ℕ) → Dec (a ≢ b)
dec_differ a b = go (cases_eq a b)
  where
    go : (a ≡ b) ⊎ (a ≡ b → ⊥) → Dec (a ≢ b)
    go (inl same) = no (λ differ. differ same)
    go (inr differ) = yes differ

dec_true : (b : Bool) → Dec (b ≡ true)
dec_true true = yes refl
dec_true false = no (λ e. cc)

module _ (c : Computation) (good : ℕ → ℕ → Bool) where
  -- a good count isn't a bad one
  pub apart_counts : (box : List ℕ) (q m : ℕ) → q < length box → IsGood good box → good q m ≡ false
      → get_or box q 0 ≢ m
  apart_counts box q m lt there bad same =
      false≢true (sym bad ∙ sym (ap (λ (n : ℕ). good q n) same) ∙ there q lt)

  dec_good : (cut : List ℕ) → Dec (IsGood good cut)
  dec_good cut = dec_each (λ q. good q (get_or cut q 0) ≡ true) (λ q. dec_true (good q (get_or cut q 0))) (length cut)

  -- a box is one in each smaller cut that has it
  pub box_in_less : (less cut box : List ℕ) → IsWithin less cut → IsWithin box less → IsBox c good cut box
      → IsBox c good less box
  box_in_less less cut box below within is = record {
    one_each = is.one_each;
    within = within;
    good_there = is.good_there;
    together = λ q m after le bad.
        is.together q m after (let up : get_or less q 0 ≤ get_or cut q 0 = below q in omega arith) bad;
  }

  -- the counts of a good cut are a box in it
  pub good_is_box : (cut : List ℕ) → IsConsistent c cut → IsGood good cut → IsBox c good cut cut
  good_is_box cut ok all = record {
    one_each = ok.fits.one_each;
    within = λ p. omega arith;
    good_there = all;
    together = λ q m after le bad. absurd (omega arith);
  }

  -- A box in a cut that isn't good is one in each cut with an event less.
  module _ (cut box : List ℕ) (p : ℕ) (ok : IsConsistent c cut) (is : IsBox c good cut box)
      (not_good : ¬ IsGood good cut) (has : 0 < get_or cut p 0) (ok_less : IsConsistent c (one_less cut p)) where
    count_good : get_or cut p 0 ≤ get_or box p 0 → (q : ℕ) → q < length cut → good q (get_or cut q 0) ≡ true
    count_good top q lt = pick (good q (get_or cut q 0)) refl
      where
        in_box : q < length box
        in_box = let a : length cut ≡ length c = ok.fits.one_each in
            let b : length box ≡ length c = is.one_each in omega arith

        left_before : get_or box q 0 < get_or cut q 0 → good q (get_or cut q 0) ≡ false → ⊥
        left_before low bad = go (cases_eq q p)
          where
            go : (q ≡ p) ⊎ (q ≡ p → ⊥) → ⊥
            go (inl same) =
                let a : get_or box q 0 ≡ get_or box p 0 = ap (λ (i : ℕ). get_or box i 0) same in
                let b : get_or cut q 0 ≡ get_or cut p 0 = ap (λ (i : ℕ). get_or cut i 0) same in
                omega arith
            go (inr apart) =
                let a : get_or (one_less cut p) q 0 ≡ get_or cut q 0 = less_other cut p q apart in
                let b : get_or (one_less cut p) p 0 + 1 ≡ get_or cut p 0 = less_same cut p has in
                let d : get_or box p 0 ≤ get_or (one_less cut p) p 0 =
                is.together q (get_or cut q 0) low (omega arith) bad (one_less cut p) ok_less (omega arith) p in
                omega arith

        bad_there : good q (get_or cut q 0) ≡ false → (get_or box q 0 < get_or cut q 0)
            ⊎ (get_or cut q 0 ≤ get_or box q 0) → ⊥
        bad_there bad (inl low) = left_before low bad
        bad_there bad (inr high) =
            let b : get_or box q 0 ≤ get_or cut q 0 = is.within q in
            apart_counts box q (get_or cut q 0) in_box is.good_there bad (omega arith)

        pick : (b : Bool) → good q (get_or cut q 0) ≡ b → good q (get_or cut q 0) ≡ true
        pick true e = e
        pick false e = absurd (bad_there e (cases_lt (get_or box q 0) (get_or cut q 0)))

    pub box_stays : IsBox c good (one_less cut p) box
    box_stays = box_in_less (one_less cut p) cut box (λ q. less_le cut p q has) within is
      where
        within : IsWithin box (one_less cut p)
        within q = go (cases_lt (get_or (one_less cut p) q 0) (get_or box q 0))
          where
            go : (get_or (one_less cut p) q 0 < get_or box q 0) ⊎ (get_or box q 0 ≤ get_or (one_less cut p) q 0)
                → get_or box q 0 ≤ get_or (one_less cut p) q 0
            go (inr le) = le
            go (inl more) =
                let last : (q ≡ p) × (get_or box q 0 ≡ get_or cut p 0) =
                is_last cut p q (get_or box q 0) has more (is.within q) in
                let same : get_or box q 0 ≡ get_or box p 0 = ap (λ (i : ℕ). get_or box i 0) last.0 in
                let at : get_or box q 0 ≡ get_or cut p 0 = last.1 in
                absurd (not_good (count_good (omega arith)))

  -- Of boxes in two cuts with an event less, each of another process, the countwise least is a box in the cut.
  module _ (cut one two : List ℕ) (q m : ℕ) (differ : q ≢ m) (has_q : 0 < get_or cut q 0) (has_m : 0 < get_or cut m 0)
      (first : IsBox c good (one_less cut q) one) (second : IsBox c good (one_less cut m) two) where
    meet_good : (p : ℕ) → p < length (meet one two) → good p (get_or (meet one two) p 0) ≡ true
    meet_good p lt = go (min_cases (get_or one p 0) (get_or two p 0))
      where
        many : length (meet one two) ≡ length one
        many = length_meet one two (first.one_each ∙ sym second.one_each)

        go : (min (get_or one p 0) (get_or two p 0) ≡ get_or one p 0)
            ⊎ (min (get_or one p 0) (get_or two p 0) ≡ get_or two p 0) → good p (get_or (meet one two) p 0) ≡ true
        go (inl is) =
            ap (λ (n : ℕ). good p n) (meet_at one two p ∙ is) ∙ first.good_there p (omega (arith, many, lt))
        go (inr is) =
            let a : length one ≡ length c = first.one_each in
            let b : length two ≡ length c = second.one_each in
            ap (λ (n : ℕ). good p n) (meet_at one two p ∙ is) ∙ second.good_there p (omega (arith, many, lt))

    module _ (s n : ℕ) (le : n ≤ get_or cut s 0) (there : s < length c) (bad : good s n ≡ false) (x : List ℕ)
        (ok : IsConsistent c x) (has : n ≤ get_or x s 0) where
      by_first : get_or one s 0 < n → n ≤ get_or (one_less cut q) s 0 → IsWithin (meet one two) x
      by_first low high p =
          let a : get_or (meet one two) p 0 ≤ get_or one p 0 = meet_within_left one two p in
          let b : get_or one p 0 ≤ get_or x p 0 = first.together s n low high bad x ok has p in
          omega arith

      by_second : get_or two s 0 < n → n ≤ get_or (one_less cut m) s 0 → IsWithin (meet one two) x
      by_second low high p =
          let a : get_or (meet one two) p 0 ≤ get_or two p 0 = meet_within_right one two p in
          let b : get_or two p 0 ≤ get_or x p 0 = second.together s n low high bad x ok has p in
          omega arith

      -- the last event of q is there in the other cut
      last_first : get_or (one_less cut q) s 0 < n → IsWithin (meet one two) x
      last_first more = go (cases_lt (get_or two s 0) n)
        where
          last : (s ≡ q) × (n ≡ get_or cut q 0)
          last = is_last cut q s n has_q more le

          same : get_or (one_less cut m) s 0 ≡ get_or cut s 0
          same = less_other cut m s (λ e. differ (sym last.0 ∙ e))

          go : (get_or two s 0 < n) ⊎ (n ≤ get_or two s 0) → IsWithin (meet one two) x
          go (inl low) = by_second low (let e : get_or (one_less cut m) s 0 ≡ get_or cut s 0 = same in omega arith)
          go (inr high) =
              let e : get_or (one_less cut m) s 0 ≡ get_or cut s 0 = same in
              let a : get_or two s 0 ≤ get_or (one_less cut m) s 0 = second.within s in
              let b : n ≡ get_or cut q 0 = last.1 in
              let d : get_or cut s 0 ≡ get_or cut q 0 = ap (λ (i : ℕ). get_or cut i 0) last.0 in
              let l : length two ≡ length c = second.one_each in
              absurd (apart_counts two s n (omega (arith, l, there)) second.good_there bad
              (omega (arith, e, a, b, d, high)))

      last_second : get_or (one_less cut m) s 0 < n → n ≤ get_or one s 0 → IsWithin (meet one two) x
      last_second more high =
          let last : (s ≡ m) × (n ≡ get_or cut m 0) = is_last cut m s n has_m more le in
          let a : get_or one s 0 ≤ get_or (one_less cut q) s 0 = first.within s in
          let e : get_or (one_less cut q) s 0 ≤ get_or cut s 0 = less_le cut q s has_q in
          let b : n ≡ get_or cut m 0 = last.1 in
          let d : get_or cut s 0 ≡ get_or cut m 0 = ap (λ (i : ℕ). get_or cut i 0) last.0 in
          let l : length one ≡ length c = first.one_each in
          absurd (apart_counts one s n (omega (arith, l, there)) first.good_there bad (omega (arith, e, a, b, d, high)))

      meet_together : get_or (meet one two) s 0 < n → IsWithin (meet one two) x
      meet_together after = go (cases_lt (get_or one s 0) n)
        where
          in_first : get_or one s 0 < n → (get_or (one_less cut q) s 0 < n) ⊎ (n ≤ get_or (one_less cut q) s 0)
              → IsWithin (meet one two) x
          in_first low (inl more) = last_first more
          in_first low (inr high) = by_first low high

          in_second : n ≤ get_or one s 0 → (get_or (one_less cut m) s 0 < n) ⊎ (n ≤ get_or (one_less cut m) s 0)
              → IsWithin (meet one two) x
          in_second high (inl more) = last_second more high
          in_second high (inr le_less) =
              let at : get_or (meet one two) s 0 ≡ min (get_or one s 0) (get_or two s 0) = meet_at one two s in
              by_second (omega arith) le_less

          go : (get_or one s 0 < n) ⊎ (n ≤ get_or one s 0) → IsWithin (meet one two) x
          go (inl low) = in_first low (cases_lt (get_or (one_less cut q) s 0) n)
          go (inr high) = in_second high (cases_lt (get_or (one_less cut m) s 0) n)

    pub meet_box : IsConsistent c cut → IsBox c good cut (meet one two)
    meet_box ok_cut = record {
      one_each = length_meet one two (first.one_each ∙ sym second.one_each) ∙ first.one_each;
      within = λ p.
          let a : get_or (meet one two) p 0 ≤ get_or one p 0 = meet_within_left one two p in
          let b : get_or one p 0 ≤ get_or (one_less cut q) p 0 = first.within p in
          let d : get_or (one_less cut q) p 0 ≤ get_or cut p 0 = less_le cut q p has_q in
          omega arith;
      good_there = meet_good;
      together = λ s n after le bad x ok has.
          let l : length cut ≡ length c = ok_cut.fits.one_each in
          let there : s < length cut = in_range cut s (omega arith) in
          meet_together s n le (omega (arith, l, there)) bad x ok has after;
    }

  -- Where the last event of one process alone can be undone, a box in what is left is one in the cut.
  module _ (acyclic : HasNoCycle c) (cut box : List ℕ) (q : ℕ) (ok : IsConsistent c cut) (has : 0 < get_or cut q 0)
      (is : IsBox c good (one_less cut q) box)
      (alone : (p : ℕ) → 0 < get_or cut p 0 → p ≢ q → ¬ IsConsistent c (one_less cut p)) where
    all_before : (x : List ℕ) → IsConsistent c x → get_or cut q 0 ≤ get_or x q 0 → IsWithin cut x
    all_before x ok_x le p = go (dec_list (meet cut x) cut)
      where
        last : get_or (meet cut x) q 0 ≡ get_or cut q 0
        last = let at : get_or (meet cut x) q 0 ≡ min (get_or cut q 0) (get_or x q 0) = meet_at cut x q in omega arith

        other : (r : ℕ) → get_or (meet cut x) r 0 < get_or cut r 0 → r ≢ q
        other r less same =
            let a : get_or (meet cut x) r 0 ≡ get_or (meet cut x) q 0 =
            ap (λ (i : ℕ). get_or (meet cut x) i 0) same in
            let b : get_or cut r 0 ≡ get_or cut q 0 = ap (λ (i : ℕ). get_or cut i 0) same in
            let d : get_or (meet cut x) q 0 ≡ get_or cut q 0 = last in
            omega arith

        go : Dec (meet cut x ≡ cut) → get_or cut p 0 ≤ get_or x p 0
        go (yes same) =
            let a : get_or (meet cut x) p 0 ≤ get_or x p 0 = meet_within_right cut x p in
            let b : get_or (meet cut x) p 0 ≡ get_or cut p 0 = ap (λ (xs : List ℕ). get_or xs p 0) same in
            omega arith
        go (no differ) =
            let w : (r : ℕ) × (r < length cut) × (get_or (meet cut x) r 0 < get_or cut r 0)
            × IsConsistent c (one_less cut r) =
            step_down c acyclic (meet cut x) cut (meet_consistent c cut x ok ok_x) ok (meet_within_left cut x) differ in
            absurd (alone w.0 (let less : get_or (meet cut x) w.0 0 < get_or cut w.0 0 = w.2 in omega arith)
            (other w.0 w.2) w.3)

    pub box_alone : IsBox c good cut box
    box_alone = record {
      one_each = is.one_each;
      within = λ p.
          let a : get_or box p 0 ≤ get_or (one_less cut q) p 0 = is.within p in
          let b : get_or (one_less cut q) p 0 ≤ get_or cut p 0 = less_le cut q p has in
          omega arith;
      good_there = is.good_there;
      together = λ s n after le bad x ok_x there p.
          together s n after le bad x ok_x there p (cases_lt (get_or (one_less cut q) s 0) n);
    }
      where
        together : (s n : ℕ) → get_or box s 0 < n → n ≤ get_or cut s 0 → good s n ≡ false → (x : List ℕ)
            → IsConsistent c x → n ≤ get_or x s 0 → (p : ℕ) → (get_or (one_less cut q) s 0 < n)
            ⊎ (n ≤ get_or (one_less cut q) s 0) → get_or box p 0 ≤ get_or x p 0
        together s n after le bad x ok_x there p (inr high) = is.together s n after high bad x ok_x there p
        together s n after le bad x ok_x there p (inl more) =
            let last : (s ≡ q) × (n ≡ get_or cut q 0) = is_last cut q s n has more le in
            let a : get_or x s 0 ≡ get_or x q 0 = ap (λ (i : ℕ). get_or x i 0) last.0 in
            let e : n ≡ get_or cut q 0 = last.1 in
            let b : get_or cut p 0 ≤ get_or x p 0 = all_before x ok_x (omega (arith, a, e, there)) p in
            let d : get_or box p 0 ≤ get_or (one_less cut q) p 0 = is.within p in
            let f : get_or (one_less cut q) p 0 ≤ get_or cut p 0 = less_le cut q p has in
            omega (arith, b, d, f)

  -- ---- whether there is a box can be decided

  module _ (acyclic : HasNoCycle c) where
    -- one event can be undone so that no box is left, or there is a box
    box_or_leaves : (k : ℕ) → ((other : List ℕ) → IsOfLevel c k other → HasBox c good other ⊎ HasNoBox c good other)
        → (cut : List ℕ) → IsOfLevel c (suc k) cut → HasBox c good cut ⊎ ((p : ℕ) × LeavesNoBox c good cut p)
    box_or_leaves k below cut level = first (below (one_less cut u.0) (u.2, fewer u.0 u.1))
      where
        u : (p : ℕ) × (0 < get_or cut p 0) × IsConsistent c (one_less cut p)
        u = let s : sum cut ≡ suc k = level.1 in can_undo c acyclic cut level.0 (omega arith)

        fewer : (p : ℕ) → 0 < get_or cut p 0 → sum (one_less cut p) ≡ k
        fewer p has =
            let s : sum cut ≡ suc k = level.1 in
            let t : sum (one_less cut p) + 1 ≡ sum cut = sum_less cut p has in
            omega arith

        second : (box : List ℕ) → IsBox c good (one_less cut u.0) box → (p : ℕ) → p ≢ u.0 → 0 < get_or cut p 0
            → IsConsistent c (one_less cut p) → HasBox c good (one_less cut p) ⊎ HasNoBox c good (one_less cut p)
            → HasBox c good cut ⊎ ((r : ℕ) × LeavesNoBox c good cut r)
        second box is p apart has ok (inr none) = inr (p, (has, ok, none))
        second box is p apart has ok (inl (other, there)) =
            inl (meet box other, meet_box cut box other u.0 p (λ s. apart (sym s)) u.1 has is there level.0)

        some : (box : List ℕ) → IsBox c good (one_less cut u.0) box
            → Dec ((p : ℕ) × (p < length cut) × ((0 < get_or cut p 0) × (IsConsistent c (one_less cut p) × (p ≢ u.0))))
            → HasBox c good cut ⊎ ((r : ℕ) × LeavesNoBox c good cut r)
        some box is (yes (p, lt, (has, (ok, apart)))) =
            second box is p apart has ok (below (one_less cut p) (ok, fewer p has))
        some box is (no none) =
            inl (
              box,
              box_alone acyclic cut box u.0 level.0 u.1 is (λ p has apart ok.
                  none (p, in_range cut p has, (has, (ok, apart)))),
            )

        first : HasBox c good (one_less cut u.0) ⊎ HasNoBox c good (one_less cut u.0)
            → HasBox c good cut ⊎ ((r : ℕ) × LeavesNoBox c good cut r)
        first (inr none) = inr (u.0, (u.1, u.2, none))
        first (inl (box, is)) =
            some box is (dec_some (λ p. (0 < get_or cut p 0) × (IsConsistent c (one_less cut p) × (p ≢ u.0))) (λ p.
            dec_both (dec_less 0 (get_or cut p 0)) (dec_both (dec_consistent c (one_less cut p)) (dec_differ p u.0)))
            (length cut))

    -- to undo an event of a cut that isn't good leaves no box only if there was none
    none_from_less : (cut : List ℕ) (p : ℕ) → IsConsistent c cut → ¬ IsGood good cut → LeavesNoBox c good cut p
        → HasNoBox c good cut
    none_from_less cut p ok not_good (has, ok_less, none) box is =
        none box (box_stays cut box p ok is not_good has ok_less)

    box_or_none : (k : ℕ) (cut : List ℕ) → IsOfLevel c k cut → HasBox c good cut ⊎ HasNoBox c good cut
    box_or_none zero cut level = go (dec_good cut)
      where
        go : Dec (IsGood good cut) → HasBox c good cut ⊎ HasNoBox c good cut
        go (yes all) = inl (cut, good_is_box cut level.0 all)
        go (no not_good) =
            inr (λ box is. not_good (λ q lt.
            let none : get_or cut q 0 ≡ 0 =
            ap (λ (xs : List ℕ). get_or xs q 0) (empty_from_sum c cut level.0.fits.one_each level.1) ∙ empty_at c q in
            let low : get_or box q 0 ≤ get_or cut q 0 = is.within q in
            let same : get_or box q 0 ≡ get_or cut q 0 = omega (arith, none, low) in
            let m : length cut ≡ length c = level.0.fits.one_each in
            let l : length box ≡ length c = is.one_each in
            subst (λ (n : ℕ). good q n ≡ true) same (is.good_there q (omega (arith, m, l, lt)))))
    box_or_none (suc k) cut level = go (dec_good cut) (box_or_leaves k (λ other at. box_or_none k other at) cut level)
      where
        go : Dec (IsGood good cut) → HasBox c good cut ⊎ ((p : ℕ) × LeavesNoBox c good cut p)
            → HasBox c good cut ⊎ HasNoBox c good cut
        go (yes all) r = inl (cut, good_is_box cut level.0 all)
        go (no not_good) (inl some) = inl some
        go (no not_good) (inr (p, leaves)) = inr (none_from_less cut p level.0 not_good leaves)

    -- from a cut without a box that isn't empty one event can be undone so that none is left
    pub some_leaves : (k : ℕ) (cut : List ℕ) → IsOfLevel c (suc k) cut → HasNoBox c good cut
        → (p : ℕ) × LeavesNoBox c good cut p
    some_leaves k cut level none = go (box_or_leaves k (λ other at. box_or_none k other at) cut level)
      where
        go : HasBox c good cut ⊎ ((p : ℕ) × LeavesNoBox c good cut p) → (p : ℕ) × LeavesNoBox c good cut p
        go (inl (box, is)) = absurd (none box is)
        go (inr leaves) = leaves

-- ---- what boxes decide

module _ (c : Computation) (test : List ℕ → Bool) (good : ℕ → ℕ → Bool) (conjunction : IsConjunction c test good) where
  not_good : (cut : List ℕ) → IsConsistent c cut → test cut ≡ false → ¬ IsGood good cut
  not_good cut ok fails all = false≢true (sym fails ∙ (conjunction cut ok).1 all)

  -- an avoiding cut has no box
  pub avoiding_no_box : (k : ℕ) (cut : List ℕ) → IsAvoiding c test k cut → HasNoBox c good cut
  avoiding_no_box zero cut a box is =
      let level : IsOfLevel c 0 cut = avoiding_level c test 0 cut a in
      not_good cut level.0 (avoiding_fails c test 0 cut a) (λ q lt.
      let none : get_or cut q 0 ≡ 0 =
      ap (λ (xs : List ℕ). get_or xs q 0) (empty_from_sum c cut level.0.fits.one_each level.1) ∙ empty_at c q in
      let low : get_or box q 0 ≤ get_or cut q 0 = is.within q in
      let same : get_or box q 0 ≡ get_or cut q 0 = omega (arith, none, low) in
      let m : length cut ≡ length c = level.0.fits.one_each in
      let l : length box ≡ length c = is.one_each in
      subst (λ (n : ℕ). good q n ≡ true) same (is.good_there q (omega (arith, m, l, lt))))
  avoiding_no_box (suc k) cut a box is =
      let w : IsOfLevel c (k + 1) cut × (test cut ≡ false)
      × ((q : ℕ) × (q < length cut) × (0 < get_or cut q 0) × IsAvoiding c test k (one_less cut q)) =
      (avoid_by_undoing c test k cut).0 (subst (λ (m : ℕ). IsAvoiding c test m cut) (sym (add-one k)) a) in
      let ok_less : IsConsistent c (one_less cut w.2.0) = (avoiding_level c test k (one_less cut w.2.0) w.2.3).0 in
      avoiding_no_box k (one_less cut w.2.0) w.2.3 box
      (box_stays c good cut box w.2.0 w.0.0 is (not_good cut w.0.0 w.1) w.2.2 ok_less)

  fails_without : (cut : List ℕ) → IsConsistent c cut → HasNoBox c good cut → test cut ≡ false
  fails_without cut ok none = go (test cut) refl
    where
      go : (b : Bool) → test cut ≡ b → test cut ≡ false
      go false e = e
      go true e = absurd (none cut (good_is_box c good cut ok ((conjunction cut ok).0 e)))

  -- a cut without a box avoids
  pub no_box_avoiding : HasNoCycle c → (k : ℕ) (cut : List ℕ) → IsOfLevel c k cut → HasNoBox c good cut
      → IsAvoiding c test k cut
  no_box_avoiding acyclic zero cut level none =
      (avoid_at_first_hit c acyclic test 0 (λ j other lt there. absurd (omega arith)) cut).1 (
        level,
        fails_without cut level.0 none,
      )
  no_box_avoiding acyclic (suc k) cut level none =
      let w : (p : ℕ) × LeavesNoBox c good cut p = some_leaves c good acyclic k cut level none in
      let t : sum (one_less cut w.0) + 1 ≡ sum cut = sum_less cut w.0 w.1.0 in
      let s : sum cut ≡ suc k = level.1 in
      subst (λ (m : ℕ). IsAvoiding c test m cut) (add-one k)
      ((avoid_by_undoing c test k cut).1 (
        subst (λ (m : ℕ). IsOfLevel c m cut) (sym (add-one k)) level,
        fails_without cut level.0 none,
        (
          w.0,
          in_range cut w.0 w.1.0,
          w.1.0,
          no_box_avoiding acyclic k (one_less cut w.0) (w.1.1, omega (arith, s, t)) w.1.2,
        ),
      ))

pub avoids_without_box : AvoidsWithoutBox
avoids_without_box c acyclic test good conjunction k cut = (
  λ a. (avoiding_level c test k cut a, avoiding_no_box c test good conjunction k cut a),
  λ w. no_box_avoiding c test good conjunction acyclic k cut w.0 w.1,
)
