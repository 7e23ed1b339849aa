-- How a box is looked for from the last intervals on.
use Rattle.std.proofs.Common.{◌≡◌, ◌≢◌, ℕ, ◌+◌, ◌-◌, ◌<◌, ◌≤◌, Bool, true, false, List, length, get_or, length-set, sum, refl, sym, ap, ◌∙◌, subst, inl, inr, ◌⊎◌, arith}
use Rattle.std.proofs.lemmas.Bool.{cases_eq, cases_lt, false≢true}
use Rattle.std.proofs.lemmas.List.{get_or-set_same, get_or-set_other}
use Rattle.def_model.specs.Events.{Computation, event_count}
use Rattle.def_model.specs.Order.{HasNoCycle}
use Rattle.def_model.specs.Cuts.{IsConsistent, one_less}
use Rattle.def_model.specs.Lattice.{IsWithin}
use Rattle.def_model.proofs.Counts.{in_range, less_le, less_same, same_from_sum, sum_le}
use Rattle.wide_conjunctions.specs.Boxes.{AreBefore, HasBox, HasNoBox, IsBox}
use Rattle.wide_conjunctions.specs.Intervals.{IsInterval}
use Rattle.wide_conjunctions.specs.Ways.{AreAboveBoxes, ComesBack, HasEnteredBefore, HasNoneBefore, HasNoneEarlier, IsFirstOf, IsLastGood, IsLate, NoneIsLate}
use Rattle.wide_conjunctions.proofs.BoxSteps.{apart_counts, is_last}
use Rattle.wide_conjunctions.proofs.FirstIntervals.{all_before, never_with}

module _ (c : Computation) (good : ℕ → ℕ → Bool) (acyclic : HasNoCycle c) (cut : List ℕ) (ok : IsConsistent c cut) where
  -- a box has a good count
  good_in : (box : List ℕ) → IsBox c good cut box → (q n : ℕ) → q < length c → good q n ≡ false
      → get_or box q 0 ≢ n
  good_in box is q n lt bad =
      let l : length box ≡ length c = is.one_each in
      apart_counts c good box q n (omega (arith, l, lt)) is.good_there bad

  -- what is before a count, is before where the last interval before it is left
  before_leave : (q before leave : ℕ) → IsLastGood (good q) before leave → (box : List ℕ) → IsBox c good cut box
      → q < length c → get_or box q 0 < before → get_or box q 0 < leave
  before_leave q before leave last box is lt low = go (cases_lt (get_or box q 0) leave)
    where
      go : (get_or box q 0 < leave) ⊎ (leave ≤ get_or box q 0) → get_or box q 0 < leave
      go (inl less) = less
      go (inr le) = absurd (good_in box is q (get_or box q 0) lt (last.passed (get_or box q 0) le low) refl)

  -- an interval isn't empty
  begins_before : (q before leave start : ℕ) → 0 < leave → IsLastGood (good q) before leave
      → IsFirstOf (good q) leave start → start < leave
  begins_before q before leave start some last first = go (cases_lt start leave)
    where
      go : (start < leave) ⊎ (leave ≤ start) → start < leave
      go (inl less) = less
      go (inr le) =
          let low : start ≤ leave = first.low in
          let same : leave ≡ start = omega (arith, le, low) in
          absurd (false≢true (sym (first.here (omega (arith, same, some)))
          ∙ (sym (ap (λ (n : ℕ). good q (n - 1)) same) ∙ last.here some)))

  -- a process that has entered its last interval before a count that it can't be in
  module _ (many : ℕ) (starts leaves : List ℕ) (state : AreAboveBoxes c good cut many starts leaves) (q before : ℕ)
      (lt : q < length c) (new_starts new_leaves : List ℕ)
      (entered : HasEnteredBefore (good q) q before starts leaves new_starts new_leaves)
      (earlier : (box : List ℕ) → IsBox c good cut box → get_or box q 0 < before)
      (high : before ≤ get_or cut q 0 + 1)
      (left : entered.leave ≡ before → entered.leave ≤ get_or cut q 0 → good q before ≡ false) where
    start_same : get_or new_starts q 0 ≡ entered.start
    start_same =
        let l : length starts ≡ length c = state.starts_each in
        ap (λ (xs : List ℕ). get_or xs q 0) entered.starts_there
        ∙ get_or-set_same starts q entered.start 0 (omega (arith, l, lt))

    leave_same : get_or new_leaves q 0 ≡ entered.leave
    leave_same =
        let l : length leaves ≡ length c = state.leaves_each in
        ap (λ (xs : List ℕ). get_or xs q 0) entered.leaves_there
        ∙ get_or-set_same leaves q entered.leave 0 (omega (arith, l, lt))

    start_other : (r : ℕ) → r ≢ q → get_or new_starts r 0 ≡ get_or starts r 0
    start_other r apart =
        ap (λ (xs : List ℕ). get_or xs r 0) entered.starts_there ∙ get_or-set_other starts q r entered.start 0 apart

    leave_other : (r : ℕ) → r ≢ q → get_or new_leaves r 0 ≡ get_or leaves r 0
    leave_other r apart =
        ap (λ (xs : List ℕ). get_or xs r 0) entered.leaves_there ∙ get_or-set_other leaves q r entered.leave 0 apart

    begins : entered.start < entered.leave
    begins = begins_before q before entered.leave entered.start entered.some entered.last entered.first

    is_interval : IsInterval (good q) (get_or cut q 0) entered.start entered.leave
    is_interval = record {
      some = begins;
      within = let a : entered.leave ≤ before = entered.last.high in omega (arith, a, high);
      good_there = entered.first.passed;
      left = λ le. go le (cases_lt entered.leave before);
    }
      where
        go : entered.leave ≤ get_or cut q 0 → (entered.leave < before) ⊎ (before ≤ entered.leave)
            → good q entered.leave ≡ false
        go le (inl less) = entered.last.passed entered.leave (omega arith) less
        go le (inr more) =
            let a : entered.leave ≤ before = entered.last.high in
            let same : entered.leave ≡ before = omega (arith, a, more) in
            ap (λ (n : ℕ). good q n) same ∙ left same le

    interval_here : IsInterval (good q) (get_or cut q 0) (get_or new_starts q 0) (get_or new_leaves q 0)
    interval_here =
        subst (λ (s : ℕ × ℕ). IsInterval (good q) (get_or cut q 0) s.0 s.1)
        (λ i. (sym start_same i, sym leave_same i)) is_interval

    interval_other : (r : ℕ) → r < many → r ≢ q
        → IsInterval (good r) (get_or cut r 0) (get_or new_starts r 0) (get_or new_leaves r 0)
    interval_other r low apart =
        subst (λ (s : ℕ × ℕ). IsInterval (good r) (get_or cut r 0) s.0 s.1)
        (λ i. (sym (start_other r apart) i, sym (leave_other r apart) i)) (state.intervals r low)

    begin_here : 0 < get_or new_starts q 0 → good q (get_or new_starts q 0 - 1) ≡ false
    begin_here pos =
        subst (λ (n : ℕ). 0 < n → good q (n - 1) ≡ false) (sym start_same) entered.first.here pos

    begin_other : (r : ℕ) → r < many → r ≢ q → 0 < get_or new_starts r 0
        → good r (get_or new_starts r 0 - 1) ≡ false
    begin_other r low apart pos =
        subst (λ (n : ℕ). 0 < n → good r (n - 1) ≡ false) (sym (start_other r apart)) (state.begin r low) pos

    above_here : (box : List ℕ) → IsBox c good cut box → get_or box q 0 < get_or new_leaves q 0
    above_here box is =
        let a : get_or box q 0 < entered.leave =
        before_leave q before entered.leave entered.last box is lt (earlier box is) in
        let b : get_or new_leaves q 0 ≡ entered.leave = leave_same in
        omega (arith, a, b)

    above_other : (box : List ℕ) → IsBox c good cut box → (r : ℕ) → r < many → r ≢ q
        → get_or box r 0 < get_or new_leaves r 0
    above_other box is r low apart =
        let a : get_or box r 0 < get_or leaves r 0 = state.above box is r low in
        let b : get_or new_leaves r 0 ≡ get_or leaves r 0 = leave_other r apart in
        omega (arith, a, b)

    -- the state with one process more, or with as many
    pub entered_state : (more : ℕ) → ((r : ℕ) → r < more → r ≢ q → r < many)
        → AreAboveBoxes c good cut more new_starts new_leaves
    entered_state more before_more = record {
      starts_each = ap length entered.starts_there ∙ (length-set starts q entered.start ∙ state.starts_each);
      leaves_each = ap length entered.leaves_there ∙ (length-set leaves q entered.leave ∙ state.leaves_each);
      intervals = λ r low. interval r low (cases_eq r q);
      begin = λ r low. begin r low (cases_eq r q);
      above = λ box is r low. above box is r low (cases_eq r q);
    }
      where
        interval : (r : ℕ) → r < more → (r ≡ q) ⊎ (r ≡ q → ⊥)
            → IsInterval (good r) (get_or cut r 0) (get_or new_starts r 0) (get_or new_leaves r 0)
        interval r low (inl same) =
            subst (λ (i : ℕ). IsInterval (good i) (get_or cut i 0) (get_or new_starts i 0) (get_or new_leaves i 0))
            (sym same) interval_here
        interval r low (inr apart) = interval_other r (before_more r low apart) apart

        begin : (r : ℕ) → r < more → (r ≡ q) ⊎ (r ≡ q → ⊥) → 0 < get_or new_starts r 0
            → good r (get_or new_starts r 0 - 1) ≡ false
        begin r low (inl same) =
            subst (λ (i : ℕ). 0 < get_or new_starts i 0 → good i (get_or new_starts i 0 - 1) ≡ false) (sym same)
            begin_here
        begin r low (inr apart) = begin_other r (before_more r low apart) apart

        above : (box : List ℕ) → IsBox c good cut box → (r : ℕ) → r < more → (r ≡ q) ⊎ (r ≡ q → ⊥)
            → get_or box r 0 < get_or new_leaves r 0
        above box is r low (inl same) =
            subst (λ (i : ℕ). get_or box i 0 < get_or new_leaves i 0) (sym same) (above_here box is)
        above box is r low (inr apart) = above_other box is r (before_more r low apart) apart

  -- the last intervals: one process more
  pub entered_last : (q : ℕ) (starts leaves : List ℕ) → AreAboveBoxes c good cut q starts leaves → q < length c
      → (new_starts new_leaves : List ℕ)
      → HasEnteredBefore (good q) q (get_or cut q 0 + 1) starts leaves new_starts new_leaves
      → AreAboveBoxes c good cut (q + 1) new_starts new_leaves
  entered_last q starts leaves state lt new_starts new_leaves entered =
      entered_state q starts leaves state q (get_or cut q 0 + 1) lt new_starts new_leaves entered
      (λ box is. let a : get_or box q 0 ≤ get_or cut q 0 = is.within q in omega (arith, a)) (omega arith)
      (λ same le. absurd (omega (arith, same, le))) (q + 1) (λ r low apart. below r low apart (cases_lt r q))
    where
      below : (r : ℕ) → r < q + 1 → r ≢ q → (r < q) ⊎ (q ≤ r) → r < q
      below r low apart (inl less) = less
      below r low apart (inr le) = absurd (apart (omega arith))

  -- a process that has no interval within the cut is in no box
  pub none_last : (q : ℕ) → q < length c → HasNoneBefore (good q) (get_or cut q 0 + 1) → HasNoBox c good cut
  none_last q lt none box is =
      let a : get_or box q 0 ≤ get_or cut q 0 = is.within q in
      good_in box is q (get_or box q 0) lt (none (get_or box q 0) (omega (arith, a))) refl

  module _ (starts leaves : List ℕ) (state : AreAboveBoxes c good cut (length c) starts leaves) where
    -- each box has an earlier count of a process that is late
    late_below : (r : ℕ) → IsLate c cut starts leaves r → (box : List ℕ) → IsBox c good cut box
        → get_or box r 0 < get_or starts r 0
    late_below r (q, lt, (le, (there, (n, clock, less)))) box is = go (cases_lt (get_or box r 0) (get_or starts r 0))
      where
        go : (get_or box r 0 < get_or starts r 0) ⊎ (get_or starts r 0 ≤ get_or box r 0)
            → get_or box r 0 < get_or starts r 0
        go (inl low) = low
        go (inr high) =
            let a : get_or cut q 0 ≤ event_count c q = ok.fits.within q in
            absurd (never_with c acyclic q (get_or leaves q 0) r n (get_or starts r 0) clock less (omega (arith, a, le))
            (λ y ok_y has.
            let b : get_or box r 0 ≤ get_or y r 0 =
            is.together q (get_or leaves q 0) (state.above box is q lt) le ((state.intervals q lt).left le) y ok_y has r
            in omega (arith, b, high)))

    there : (r : ℕ) → IsLate c cut starts leaves r → r < length c
    there r late = late.2.1.0

    -- its start has counts before it
    positive : (r : ℕ) → IsLate c cut starts leaves r → 0 < get_or starts r 0
    positive r (q, lt, (le, (in_c, (n, clock, less)))) = omega (arith, less)

    -- so it goes to the interval before
    pub entered_before : (r : ℕ) → IsLate c cut starts leaves r → (new_starts new_leaves : List ℕ)
        → HasEnteredBefore (good r) r (get_or starts r 0) starts leaves new_starts new_leaves
        → AreAboveBoxes c good cut (length c) new_starts new_leaves
    entered_before r late new_starts new_leaves entered =
        entered_state (length c) starts leaves state r (get_or starts r 0) (there r late) new_starts new_leaves entered
        (late_below r late) high left (length c) (λ q low apart. low)
      where
        i : IsInterval (good r) (get_or cut r 0) (get_or starts r 0) (get_or leaves r 0)
        i = state.intervals r (there r late)

        high : get_or starts r 0 ≤ get_or cut r 0 + 1
        high =
            let a : get_or starts r 0 < get_or leaves r 0 = i.some in
            let b : get_or leaves r 0 ≤ get_or cut r 0 + 1 = i.within in
            omega (arith, a, b)

        left : entered.leave ≡ get_or starts r 0 → entered.leave ≤ get_or cut r 0 → good r (get_or starts r 0) ≡ false
        left same le =
            absurd (false≢true (sym (state.begin r (there r late) (positive r late))
            ∙ (sym (ap (λ (n : ℕ). good r (n - 1)) same) ∙ entered.last.here entered.some)))

    -- or there is no box if it has none
    pub none_before : (r : ℕ) → IsLate c cut starts leaves r → HasNoneBefore (good r) (get_or starts r 0)
        → HasNoBox c good cut
    none_before r late none box is =
        good_in box is r (get_or box r 0) (there r late) (none (get_or box r 0) (late_below r late box is)) refl

    -- or if its last interval is the one that is wanted
    pub none_earlier : (r : ℕ) → IsLate c cut starts leaves r → HasNoneEarlier c good cut r → HasNoBox c good cut
    none_earlier r late none box is = go (cases_lt (get_or box r 0) (get_or starts r 0 - 1))
      where
        bad : good r (get_or starts r 0 - 1) ≡ false
        bad = state.begin r (there r late) (positive r late)

        go : (get_or box r 0 < get_or starts r 0 - 1) ⊎ (get_or starts r 0 - 1 ≤ get_or box r 0) → ⊥
        go (inl low) =
            let i : IsInterval (good r) (get_or cut r 0) (get_or starts r 0) (get_or leaves r 0) =
            state.intervals r (there r late) in
            let a : get_or starts r 0 < get_or leaves r 0 = i.some in
            let b : get_or leaves r 0 ≤ get_or cut r 0 + 1 = i.within in
            false≢true (sym bad ∙ none box is (get_or starts r 0 - 1) low (omega (arith, a, b)))
        go (inr high) =
            let a : get_or box r 0 < get_or starts r 0 = late_below r late box is in
            good_in box is r (get_or starts r 0 - 1) (there r late) bad (omega (arith, a, high))

    -- where none is late the starts are a box
    pub box_there : NoneIsLate c cut starts leaves → HasBox c good cut
    box_there none = (
      starts,
      record {
        one_each = state.starts_each;
        within = λ p. within p (cases_lt 0 (get_or starts p 0));
        good_there = λ p lt.
            let l : length starts ≡ length c = state.starts_each in
            let i : IsInterval (good p) (get_or cut p 0) (get_or starts p 0) (get_or leaves p 0) =
            state.intervals p (omega (arith, l, lt)) in
            i.good_there (get_or starts p 0) (omega arith) i.some;
        together = λ q m after le bad. together q m after le bad;
      },
    )
      where
        within : (p : ℕ) → (0 < get_or starts p 0) ⊎ (get_or starts p 0 ≤ 0) → get_or starts p 0 ≤ get_or cut p 0
        within p (inr zero_there) = omega arith
        within p (inl has) =
            let l : length starts ≡ length c = state.starts_each in
            let t : p < length starts = in_range starts p has in
            let i : IsInterval (good p) (get_or cut p 0) (get_or starts p 0) (get_or leaves p 0) =
            state.intervals p (omega (arith, l, t)) in
            let a : get_or starts p 0 < get_or leaves p 0 = i.some in
            let b : get_or leaves p 0 ≤ get_or cut p 0 + 1 = i.within in
            omega (arith, a, b)

        together : (q m : ℕ) → get_or starts q 0 < m → m ≤ get_or cut q 0 → good q m ≡ false → AreBefore c starts q m
        together q m after le bad =
            let l : length cut ≡ length c = ok.fits.one_each in
            let t : q < length cut = in_range cut q (omega (arith, after, le)) in
            go (omega (arith, l, t)) (cases_lt m (get_or leaves q 0))
          where
            go : q < length c → (m < get_or leaves q 0) ⊎ (get_or leaves q 0 ≤ m) → AreBefore c starts q m
            go lt (inl inside) =
                absurd (false≢true (sym bad ∙ (state.intervals q lt).good_there m (omega (arith, after)) inside))
            go lt (inr left) =
                let s : get_or starts q 0 < get_or leaves q 0 = (state.intervals q lt).some in
                all_before c starts q (get_or leaves q 0) state.starts_each (none q lt (omega (arith, le, left))) m left
                (omega (arith, s))

    -- the interval before begins earlier
    pub begins_earlier : (r : ℕ) → IsLate c cut starts leaves r → (new_starts new_leaves : List ℕ)
        → HasEnteredBefore (good r) r (get_or starts r 0) starts leaves new_starts new_leaves
        → sum new_starts < sum starts
    begins_earlier r late new_starts new_leaves entered = go (cases_lt (sum new_starts) (sum starts))
      where
        next : AreAboveBoxes c good cut (length c) new_starts new_leaves
        next = entered_before r late new_starts new_leaves entered

        long : length new_starts ≡ length starts
        long = next.starts_each ∙ sym state.starts_each

        here : get_or new_starts r 0 < get_or starts r 0
        here =
            let l : length starts ≡ length c = state.starts_each in
            let t : r < length c = there r late in
            let a : get_or new_starts r 0 ≡ entered.start =
            ap (λ (xs : List ℕ). get_or xs r 0) entered.starts_there
            ∙ get_or-set_same starts r entered.start 0 (omega (arith, l, t)) in
            let b : entered.leave ≤ get_or starts r 0 = entered.last.high in
            let d : entered.start < entered.leave =
            begins_before r (get_or starts r 0) entered.leave entered.start entered.some entered.last entered.first in
            omega (arith, a, b, d)

        down : (q : ℕ) → get_or new_starts q 0 ≤ get_or starts q 0
        down q = at (cases_eq q r)
          where
            at : (q ≡ r) ⊎ (q ≡ r → ⊥) → get_or new_starts q 0 ≤ get_or starts q 0
            at (inl same) =
                let h : get_or new_starts r 0 < get_or starts r 0 = here in
                subst (λ (i : ℕ). get_or new_starts i 0 ≤ get_or starts i 0) (sym same) (omega (arith, h))
            at (inr apart) =
                let e : get_or new_starts q 0 ≡ get_or starts q 0 =
                ap (λ (xs : List ℕ). get_or xs q 0) entered.starts_there
                ∙ get_or-set_other starts r q entered.start 0 apart in
                omega (arith, e)

        go : (sum new_starts < sum starts) ⊎ (sum starts ≤ sum new_starts) → sum new_starts < sum starts
        go (inl less) = less
        go (inr le) =
            let s : sum new_starts ≤ sum starts = sum_le new_starts starts down long in
            let same : new_starts ≡ starts = same_from_sum new_starts starts long down (omega (arith, s, le)) in
            let e : get_or new_starts r 0 ≡ get_or starts r 0 = ap (λ (xs : List ℕ). get_or xs r 0) same in
            let h : get_or new_starts r 0 < get_or starts r 0 = here in
            absurd (omega (arith, e, h))

-- ---- an event less

module _ (c : Computation) (good : ℕ → ℕ → Bool) (cut : List ℕ) (p : ℕ) (ok : IsConsistent c cut)
    (none : HasNoBox c good cut) (has : 0 < get_or cut p 0) where
  -- a box in the cut without the last event of p has no bad count of p after its own
  pub none_returned : HasNoneEarlier c good (one_less cut p) p
  none_returned box is n after le = go (good p n) refl
    where
      t : get_or (one_less cut p) p 0 + 1 ≡ get_or cut p 0
      t = less_same cut p has

      there : good p n ≡ false → IsBox c good cut box
      there bad = record {
        one_each = is.one_each;
        within = λ q.
            let a : get_or box q 0 ≤ get_or (one_less cut p) q 0 = is.within q in
            let b : get_or (one_less cut p) q 0 ≤ get_or cut q 0 = less_le cut p q has in
            omega (arith, a, b);
        good_there = is.good_there;
        together = λ q m later high bad_m x ok_x in_x r.
            together q m later high bad_m x ok_x in_x r (cases_lt (get_or (one_less cut p) q 0) m);
      }
        where
          together : (q m : ℕ) → get_or box q 0 < m → m ≤ get_or cut q 0 → good q m ≡ false → (x : List ℕ)
              → IsConsistent c x → m ≤ get_or x q 0 → (r : ℕ) → (get_or (one_less cut p) q 0 < m)
              ⊎ (m ≤ get_or (one_less cut p) q 0) → get_or box r 0 ≤ get_or x r 0
          together q m later high bad_m x ok_x in_x r (inr inside) = is.together q m later inside bad_m x ok_x in_x r
          together q m later high bad_m x ok_x in_x r (inl more) =
              let last : (q ≡ p) × (m ≡ get_or cut p 0) = is_last cut p q m has more high in
              let a : get_or x q 0 ≡ get_or x p 0 = ap (λ (i : ℕ). get_or x i 0) last.0 in
              let e : m ≡ get_or cut p 0 = last.1 in
              let u : get_or (one_less cut p) p 0 + 1 ≡ get_or cut p 0 = t in
              is.together p n after le bad x ok_x (omega (arith, a, e, u, in_x, le)) r

      go : (b : Bool) → good p n ≡ b → good p n ≡ true
      go true e = e
      go false e = absurd (none box (there e))

  -- so there is none unless the event brings p back into an interval
  pub none_unless_back : ¬ ComesBack good cut p → HasNoBox c good (one_less cut p)
  none_unless_back not_back box is = go (good p (get_or cut p 0)) refl (cases_lt (get_or box p 0) (get_or cut p 0 - 1))
    where
      t : get_or (one_less cut p) p 0 + 1 ≡ get_or cut p 0
      t = less_same cut p has

      in_box : p < length box
      in_box =
          let a : p < length cut = in_range cut p has in
          let l : length cut ≡ length c = ok.fits.one_each in
          let m : length box ≡ length c = is.one_each in
          omega (arith, a, l, m)

      -- the last event of p brings it to a good count: the box is one in the cut
      stays : good p (get_or cut p 0) ≡ true → IsBox c good cut box
      stays yes_there = record {
        one_each = is.one_each;
        within = λ q.
            let a : get_or box q 0 ≤ get_or (one_less cut p) q 0 = is.within q in
            let b : get_or (one_less cut p) q 0 ≤ get_or cut q 0 = less_le cut p q has in
            omega (arith, a, b);
        good_there = is.good_there;
        together = λ q m later high bad_m x ok_x in_x.
            together q m later high bad_m x ok_x in_x (cases_lt (get_or (one_less cut p) q 0) m);
      }
        where
          together : (q m : ℕ) → get_or box q 0 < m → m ≤ get_or cut q 0 → good q m ≡ false → (x : List ℕ)
              → IsConsistent c x → m ≤ get_or x q 0 → (get_or (one_less cut p) q 0 < m)
              ⊎ (m ≤ get_or (one_less cut p) q 0) → IsWithin box x
          together q m later high bad_m x ok_x in_x (inr inside) = is.together q m later inside bad_m x ok_x in_x
          together q m later high bad_m x ok_x in_x (inl more) =
              let last : (q ≡ p) × (m ≡ get_or cut p 0) = is_last cut p q m has more high in
              absurd (false≢true (sym bad_m ∙ (ap (λ (i : ℕ × ℕ). good i.0 i.1) (λ j. (last.0 j, last.1 j))
              ∙ yes_there)))

      before_good : get_or box p 0 < get_or cut p 0 - 1 → good p (get_or cut p 0 - 1) ≡ true
      before_good low =
          let u : get_or (one_less cut p) p 0 + 1 ≡ get_or cut p 0 = t in
          none_returned box is (get_or cut p 0 - 1) low (omega (arith, u))

      at_good : get_or cut p 0 - 1 ≤ get_or box p 0 → good p (get_or cut p 0 - 1) ≡ true
      at_good high =
          let u : get_or (one_less cut p) p 0 + 1 ≡ get_or cut p 0 = t in
          let a : get_or box p 0 ≤ get_or (one_less cut p) p 0 = is.within p in
          let same : get_or box p 0 ≡ get_or cut p 0 - 1 = omega (arith, u, a, high) in
          subst (λ (n : ℕ). good p n ≡ true) same (is.good_there p in_box)

      go : (b : Bool) → good p (get_or cut p 0) ≡ b → (get_or box p 0 < get_or cut p 0 - 1)
          ⊎ (get_or cut p 0 - 1 ≤ get_or box p 0) → ⊥
      go true e w = none box (stays e)
      go false e (inl low) = not_back (e, before_good low)
      go false e (inr high) = not_back (e, at_good high)
