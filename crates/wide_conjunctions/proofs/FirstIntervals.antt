-- The way up to the least box, from the first intervals on.
use Rattle.std.proofs.Common.{◌≡◌, ◌≢◌, ℕ, zero, suc, ◌+◌, ◌-◌, ◌<◌, ◌≤◌, Bool, false, List, length, get_or, length-set, sum, refl, sym, ap, ◌∙◌, subst, inl, inr, ◌⊎◌, arith}
use Rattle.std.proofs.lemmas.Bool.{cases_eq, cases_lt, false≢true}
use Rattle.std.proofs.lemmas.List.{get_or-set_same, get_or-set_other}
use Rattle.def_model.specs.Events.{Computation, Place, event_count, place}
use Rattle.def_model.specs.Order.{HappenedBefore, HasNoCycle, IsClock, IsUpTo}
use Rattle.def_model.specs.Cuts.{IsConsistent, empty_cut, full_cut, one_less, total}
use Rattle.def_model.specs.Lattice.{IsWithin}
use Rattle.def_model.proofs.Chains.{happens_transitive, same_place}
use Rattle.def_model.proofs.Counts.{empty_at, empty_from_sum, full_at, in_range, length_full, same_from_sum, sum_le, sum_less}
use Rattle.def_model.proofs.Decisions.{extreme}
use Rattle.def_model.proofs.Steps.{empty_consistent}
use Rattle.def_model.proofs.Undoing.{undo_at}
use Rattle.wide_conjunctions.specs.Boxes.{AreBefore, HasNoBox, IsBox, IsLeastBox}
use Rattle.wide_conjunctions.specs.Intervals.{AreBelowBoxes, HasAll, HasEntered, HasNoneFrom, IsEarly, IsInterval, LeavesEarly, NoneLeavesEarly}
use Rattle.wide_conjunctions.proofs.BoxSteps.{apart_counts, is_last}
use Rattle.wide_conjunctions.proofs.LevelAfter.{full_consistent}

-- ---- what an event has in its past

-- a cut with the event has all counts that its clock has
pub all_before : (c : Computation) (counts : List ℕ) (q m : ℕ) → length counts ≡ length c
    → HasAll c counts (place q m) → (n : ℕ) → m ≤ n → 1 ≤ m → AreBefore c counts q n
all_before c counts q m one_each all n later some x ok has p = go (cases_lt 0 (get_or counts p 0))
  where
    at : (k : ℕ) → IsClock c (place q m) p k → get_or counts p 0 ≤ k → 0 < get_or counts p 0
        → get_or counts p 0 ≤ get_or x p 0
    at k clock le pos =
        past ((clock.past (get_or counts p 0) pos (let w : k ≤ event_count c p = clock.within in omega arith)).0 le)
      where
        past : IsUpTo c (place p (get_or counts p 0)) (place q m) → get_or counts p 0 ≤ get_or x p 0
        past (inr before) = (ok.closed (place p (get_or counts p 0)) (place q m) before (some, omega arith)).1
        past (inl same) =
            let a : p ≡ q = ap (λ (e : Place). e.process) same in
            let b : get_or counts p 0 ≡ m = ap (λ (e : Place). e.number) same in
            let d : get_or x p 0 ≡ get_or x q 0 = ap (λ (i : ℕ). get_or x i 0) a in
            omega arith

    go : (0 < get_or counts p 0) ⊎ (get_or counts p 0 ≤ 0) → get_or counts p 0 ≤ get_or x p 0
    go (inr none) = omega arith
    go (inl pos) =
        let lt : p < length counts = in_range counts p pos in
        let w : (k : ℕ) × IsClock c (place q m) p k × (get_or counts p 0 ≤ k) = all p (omega (arith, one_each, lt)) in
        at w.0 w.1 w.2 pos

-- Where fewer than n events of p are up to an event, it can't be that each cut with the event has n of them.
module _ (c : Computation) (acyclic : HasNoCycle c) (q m p k n : ℕ) (clock : IsClock c (place q m) p k) (less : k < n)
  where
    -- the last event of process s isn't up to the event
    IsOutside : List ℕ → ℕ → Type 0
    IsOutside x s = (0 < get_or x s 0) × ¬ IsUpTo c (place s (get_or x s 0)) (place q m)

    -- such an event can be undone that happened before no other such one
    undone : (x : List ℕ) → IsConsistent c x → (s : ℕ) → IsOutside x s → ((t : ℕ) → t < length x → IsOutside x t
        → ¬ HappenedBefore c (place s (get_or x s 0)) (place t (get_or x t 0))) → IsConsistent c (one_less x s)
    unfolding IsOutside
    undone x ok s (has, out) none =
        undo_at c (empty_cut c) x s (empty_consistent c) ok
        (let z : get_or (empty_cut c) s 0 ≡ 0 = empty_at c s in omega arith)
        (λ t more before.
        let z : get_or (empty_cut c) t 0 ≡ 0 = empty_at c t in
        let has_t : 0 < get_or x t 0 = omega (arith, z, more) in
        none t (in_range x t has_t) (has_t, λ up. out (onward t before up)) before)
      where
        onward : (t : ℕ) → HappenedBefore c (place s (get_or x s 0)) (place t (get_or x t 0))
            → IsUpTo c (place t (get_or x t 0)) (place q m) → IsUpTo c (place s (get_or x s 0)) (place q m)
        onward t before (inl same) =
            inr (subst (λ (e : Place). HappenedBefore c (place s (get_or x s 0)) e) same before)
        onward t before (inr later) =
            inr (happens_transitive c (place s (get_or x s 0)) (place t (get_or x t 0)) (place q m) before later)

    still_has : (x : List ℕ) (s : ℕ) → IsOutside x s → m ≤ get_or x q 0 → (get_or (one_less x s) q 0 < m)
        ⊎ (m ≤ get_or (one_less x s) q 0) → m ≤ get_or (one_less x s) q 0
    unfolding IsOutside
    still_has x s (has, out) le (inr high) = high
    still_has x s (has, out) le (inl more) =
        let last : (q ≡ s) × (m ≡ get_or x s 0) = is_last x s q m has more le in
        absurd (out (inl (same_place (place s (get_or x s 0)) (place q m) (sym last.0) (sym last.1))))

    outside : (x : List ℕ) → IsConsistent c x → n ≤ get_or x p 0 → IsOutside x p
    unfolding IsOutside
    outside x ok high = (
      omega arith,
      λ up.
          let le : get_or x p 0 ≤ k = (clock.past (get_or x p 0) (omega arith) (ok.fits.within p)).1 up in
          omega arith,
    )

    without_from : (all : ℕ) (x : List ℕ) → IsConsistent c x → sum x ≡ all → m ≤ get_or x q 0
        → ¬ ¬ ((y : List ℕ) × IsConsistent c y × (m ≤ get_or y q 0) × (get_or y p 0 < n))
    unfolding IsOutside
    without_from zero x ok s le none =
        let empty : get_or x p 0 ≡ 0 =
        ap (λ (xs : List ℕ). get_or xs p 0) (empty_from_sum c x ok.fits.one_each s) ∙ empty_at c p in
        none (x, ok, le, omega (arith, empty, less))
    without_from (suc all) x ok s le none =
        go (λ y ok_y s_y le_y. without_from all y ok_y s_y le_y none) (cases_lt (get_or x p 0) n)
      where
        go : ((y : List ℕ) → IsConsistent c y → sum y ≡ all → m ≤ get_or y q 0 → ⊥)
            → (get_or x p 0 < n) ⊎ (n ≤ get_or x p 0) → ⊥
        go below (inl low) = none (x, ok, le, low)
        go below (inr high) =
            extreme (λ a b. HappenedBefore c (place a (get_or x a 0)) (place b (get_or x b 0))) (IsOutside x) (λ a.
            acyclic (place a (get_or x a 0))) (λ a b d. happens_transitive c (place a (get_or x a 0))
            (place b (get_or x b 0)) (place d (get_or x d 0))) (length x) p (outside x ok high) (λ w.
            let t : sum (one_less x w.0) + 1 ≡ sum x = sum_less x w.0 w.1.0 in
            below (one_less x w.0) (undone x ok w.0 w.1 w.2) (omega (arith, s, t))
            (still_has x w.0 w.1 le (cases_lt (get_or (one_less x w.0) q 0) m)))

    pub never_with : m ≤ event_count c q
        → ¬ ((y : List ℕ) → IsConsistent c y → m ≤ get_or y q 0 → n ≤ get_or y p 0)
    never_with le all =
        let at : get_or (full_cut c) q 0 ≡ event_count c q = full_at c q in
        without_from (total c) (full_cut c) (full_consistent c) refl (omega arith) (λ w.
        let a : n ≤ get_or w.0 p 0 = all w.0 w.1 w.2 in let b : get_or w.0 p 0 < n = w.3 in omega (arith, a, b))

-- ---- one interval on

module _ (c : Computation) (good : ℕ → ℕ → Bool) (acyclic : HasNoCycle c) where
  -- where a process leaves before some other has come to its own, each box has it later
  pub box_later : (starts : List ℕ) (q m : ℕ) → good q m ≡ false → m ≤ event_count c q
      → IsEarly c starts (place q m) → (box : List ℕ) → IsBox c good (full_cut c) box → IsWithin starts box
      → m ≤ get_or box q 0
  box_later starts q m bad le early box is below = go (cases_lt (get_or box q 0) m)
    where
      go : (get_or box q 0 < m) ⊎ (m ≤ get_or box q 0) → m ≤ get_or box q 0
      go (inr later) = later
      go (inl before) =
          let at : get_or (full_cut c) q 0 ≡ event_count c q = full_at c q in
          absurd (never_with c acyclic q m early.0 early.1.1.0 (get_or starts early.0 0) early.1.1.1 early.1.1.2 le
          (λ y ok has.
          let a : get_or box early.0 0 ≤ get_or y early.0 0 =
          is.together q m before (omega (arith, at, le)) bad y ok has early.0 in
          let b : get_or starts early.0 0 ≤ get_or box early.0 0 = below early.0 in
          omega (arith, a, b)))

  -- a box whose count is no earlier has it in the interval, or later
  pub box_from : (q from start : ℕ) → ((n : ℕ) → from ≤ n → n < start → good q n ≡ false) → (box : List ℕ)
      → IsBox c good (full_cut c) box → q < length c → from ≤ get_or box q 0 → start ≤ get_or box q 0
  box_from q from start passed box is lt le = go (cases_lt (get_or box q 0) start)
    where
      go : (get_or box q 0 < start) ⊎ (start ≤ get_or box q 0) → start ≤ get_or box q 0
      go (inr later) = later
      go (inl before) =
          let l : length box ≡ length c = is.one_each in
          absurd (apart_counts c good box q (get_or box q 0) (omega (arith, l, lt)) is.good_there
          (passed (get_or box q 0) le before) refl)

  -- a process that has entered its next interval
  module _ (many : ℕ) (starts leaves : List ℕ) (state : AreBelowBoxes c good many starts leaves) (q from : ℕ)
      (lt : q < length c) (new_starts new_leaves : List ℕ)
      (entered : HasEntered (good q) q (event_count c q) from starts leaves new_starts new_leaves)
      (later : (box : List ℕ) → IsBox c good (full_cut c) box → from ≤ get_or box q 0) where
    start_same : get_or new_starts q 0 ≡ entered.start
    start_same =
        let l : length starts ≡ length c = state.starts_each in
        ap (λ (xs : List ℕ). get_or xs q 0) entered.starts_there
        ∙ get_or-set_same starts q entered.start 0 (omega (arith, l, lt))

    leave_same : get_or new_leaves q 0 ≡ entered.leave
    leave_same =
        let l : length leaves ≡ length c = state.leaves_each in
        ap (λ (xs : List ℕ). get_or xs q 0) entered.leaves_there
        ∙ get_or-set_same leaves q entered.leave 0 (omega (arith, l, lt))

    start_other : (r : ℕ) → r ≢ q → get_or new_starts r 0 ≡ get_or starts r 0
    start_other r apart =
        ap (λ (xs : List ℕ). get_or xs r 0) entered.starts_there ∙ get_or-set_other starts q r entered.start 0 apart

    leave_other : (r : ℕ) → r ≢ q → get_or new_leaves r 0 ≡ get_or leaves r 0
    leave_other r apart =
        ap (λ (xs : List ℕ). get_or xs r 0) entered.leaves_there ∙ get_or-set_other leaves q r entered.leave 0 apart

    pub interval_here : IsInterval (good q) (event_count c q) (get_or new_starts q 0) (get_or new_leaves q 0)
    interval_here =
        subst (λ (s : ℕ × ℕ). IsInterval (good q) (event_count c q) s.0 s.1)
        (λ i. (sym start_same i, sym leave_same i)) entered.interval

    pub interval_other : (r : ℕ) → r < many → r ≢ q
        → IsInterval (good r) (event_count c r) (get_or new_starts r 0) (get_or new_leaves r 0)
    interval_other r low apart =
        subst (λ (s : ℕ × ℕ). IsInterval (good r) (event_count c r) s.0 s.1)
        (λ i. (sym (start_other r apart) i, sym (leave_other r apart) i)) (state.intervals r low)

    pub below_new : (box : List ℕ) → IsBox c good (full_cut c) box → IsWithin new_starts box
    below_new box is r = go (cases_eq r q)
      where
        go : (r ≡ q) ⊎ (r ≡ q → ⊥) → get_or new_starts r 0 ≤ get_or box r 0
        go (inr apart) =
            let a : get_or new_starts r 0 ≡ get_or starts r 0 = start_other r apart in
            let b : get_or starts r 0 ≤ get_or box r 0 = state.below box is r in
            omega (arith, a, b)
        go (inl same) =
            let a : entered.start ≤ get_or box q 0 =
            box_from q from entered.start entered.passed box is lt (later box is) in
            let b : get_or new_starts q 0 ≡ entered.start = start_same in
            subst (λ (i : ℕ). get_or new_starts i 0 ≤ get_or box i 0) (sym same) (omega (arith, a, b))

    pub starts_many : length new_starts ≡ length c
    starts_many = ap length entered.starts_there ∙ (length-set starts q entered.start ∙ state.starts_each)

    pub leaves_many : length new_leaves ≡ length c
    leaves_many = ap length entered.leaves_there ∙ (length-set leaves q entered.leave ∙ state.leaves_each)

  -- the first intervals: one process more
  pub entered_first : (q : ℕ) (starts leaves : List ℕ) → AreBelowBoxes c good q starts leaves → q < length c
      → (new_starts new_leaves : List ℕ)
      → HasEntered (good q) q (event_count c q) 0 starts leaves new_starts new_leaves
      → AreBelowBoxes c good (q + 1) new_starts new_leaves
  entered_first q starts leaves state lt new_starts new_leaves entered = record {
    starts_each = starts_many q starts leaves state q 0 lt new_starts new_leaves entered (λ box is. omega arith);
    leaves_each = leaves_many q starts leaves state q 0 lt new_starts new_leaves entered (λ box is. omega arith);
    intervals = λ r low. go r low (cases_eq r q);
    below = below_new q starts leaves state q 0 lt new_starts new_leaves entered (λ box is. omega arith);
  }
    where
      go : (r : ℕ) → r < q + 1 → (r ≡ q) ⊎ (r ≡ q → ⊥)
          → IsInterval (good r) (event_count c r) (get_or new_starts r 0) (get_or new_leaves r 0)
      go r low (inl same) =
          subst (λ (i : ℕ). IsInterval (good i) (event_count c i) (get_or new_starts i 0) (get_or new_leaves i 0))
          (sym same)
          (interval_here q starts leaves state q 0 lt new_starts new_leaves entered (λ box is. omega arith))
      go r low (inr apart) =
          interval_other q starts leaves state q 0 lt new_starts new_leaves entered (λ box is. omega arith) r
          (omega arith) apart

  -- a process that has no interval is in no box
  pub none_first : (q : ℕ) → q < length c → HasNoneFrom (good q) (event_count c q) 0 → HasNoBox c good (full_cut c)
  none_first q lt none box is =
      let l : length box ≡ length c = is.one_each in
      let a : get_or box q 0 ≤ get_or (full_cut c) q 0 = is.within q in
      let b : get_or (full_cut c) q 0 ≡ event_count c q = full_at c q in
      apart_counts c good box q (get_or box q 0) (omega (arith, l, lt)) is.good_there
      (none (get_or box q 0) (omega arith) (omega (arith, a, b))) refl

  module _ (starts leaves : List ℕ) (state : AreBelowBoxes c good (length c) starts leaves) where
    interval : (q : ℕ) → q < length c
        → IsInterval (good q) (event_count c q) (get_or starts q 0) (get_or leaves q 0)
    interval q lt = state.intervals q lt

    later : (q : ℕ) → LeavesEarly c starts leaves q → (box : List ℕ) → IsBox c good (full_cut c) box
        → get_or leaves q 0 ≤ get_or box q 0
    later q (lt, (le, early)) box is =
        box_later starts q (get_or leaves q 0) ((interval q lt).left le) le early box is (state.below box is)

    -- a process that leaves early goes to its next interval
    pub entered_next : (q : ℕ) → LeavesEarly c starts leaves q → (new_starts new_leaves : List ℕ)
        → HasEntered (good q) q (event_count c q) (get_or leaves q 0) starts leaves new_starts new_leaves
        → AreBelowBoxes c good (length c) new_starts new_leaves
    entered_next q early new_starts new_leaves entered = record {
      starts_each =
          starts_many (length c) starts leaves state q (get_or leaves q 0) early.0 new_starts new_leaves entered
          (later q early);
      leaves_each =
          leaves_many (length c) starts leaves state q (get_or leaves q 0) early.0 new_starts new_leaves entered
          (later q early);
      intervals = λ r low. go r low (cases_eq r q);
      below =
          below_new (length c) starts leaves state q (get_or leaves q 0) early.0 new_starts new_leaves entered
          (later q early);
    }
      where
        go : (r : ℕ) → r < length c → (r ≡ q) ⊎ (r ≡ q → ⊥)
            → IsInterval (good r) (event_count c r) (get_or new_starts r 0) (get_or new_leaves r 0)
        go r low (inl same) =
            subst (λ (i : ℕ). IsInterval (good i) (event_count c i) (get_or new_starts i 0) (get_or new_leaves i 0))
            (sym same)
            (interval_here (length c) starts leaves state q (get_or leaves q 0) early.0 new_starts new_leaves entered
            (later q early))
        go r low (inr apart) =
            interval_other (length c) starts leaves state q (get_or leaves q 0) early.0 new_starts new_leaves entered
            (later q early) r low apart

    -- or there is no box if it has none
    pub none_next : (q : ℕ) → LeavesEarly c starts leaves q
        → HasNoneFrom (good q) (event_count c q) (get_or leaves q 0) → HasNoBox c good (full_cut c)
    none_next q early none box is =
        let lt : q < length c = early.0 in
        let l : length box ≡ length c = is.one_each in
        let a : get_or box q 0 ≤ get_or (full_cut c) q 0 = is.within q in
        let b : get_or (full_cut c) q 0 ≡ event_count c q = full_at c q in
        apart_counts c good box q (get_or box q 0) (omega (arith, l, lt)) is.good_there
        (none (get_or box q 0) (later q early box is) (omega (arith, a, b))) refl

    -- where none leaves early the starts are the least box
    pub least_there : NoneLeavesEarly c starts leaves → IsLeastBox c good starts
    least_there none = record {
      box_there = record {
        one_each = state.starts_each;
        within = λ p. within p (cases_lt 0 (get_or starts p 0));
        good_there = λ p lt.
            let l : length starts ≡ length c = state.starts_each in
            let i : IsInterval (good p) (event_count c p) (get_or starts p 0) (get_or leaves p 0) =
            interval p (omega (arith, l, lt)) in
            i.good_there (get_or starts p 0) (omega arith) i.some;
        together = λ q m after le bad. together q m after le bad;
      };
      least = state.below;
    }
      where
        in_c : (p : ℕ) → 0 < get_or starts p 0 → p < length c
        in_c p has =
            let l : length starts ≡ length c = state.starts_each in
            let t : p < length starts = in_range starts p has in
            omega (arith, l, t)

        within : (p : ℕ) → (0 < get_or starts p 0) ⊎ (get_or starts p 0 ≤ 0)
            → get_or starts p 0 ≤ get_or (full_cut c) p 0
        within p (inr zero_there) = omega arith
        within p (inl has) =
            let i : IsInterval (good p) (event_count c p) (get_or starts p 0) (get_or leaves p 0) =
            interval p (in_c p has) in
            let a : get_or starts p 0 < get_or leaves p 0 = i.some in
            let b : get_or leaves p 0 ≤ event_count c p + 1 = i.within in
            let d : get_or (full_cut c) p 0 ≡ event_count c p = full_at c p in
            omega (arith, a, b, d)

        together : (q m : ℕ) → get_or starts q 0 < m → m ≤ get_or (full_cut c) q 0 → good q m ≡ false
            → AreBefore c starts q m
        together q m after le bad =
            let d : length (full_cut c) ≡ length c = length_full c in
            let t : q < length (full_cut c) = in_range (full_cut c) q (omega (arith, after, le)) in
            go (omega (arith, d, t)) (cases_lt m (get_or leaves q 0))
          where
            go : q < length c → (m < get_or leaves q 0) ⊎ (get_or leaves q 0 ≤ m) → AreBefore c starts q m
            go lt (inl inside) =
                absurd (false≢true (sym bad ∙ (interval q lt).good_there m (omega (arith, after)) inside))
            go lt (inr left) =
                let d : get_or (full_cut c) q 0 ≡ event_count c q = full_at c q in
                let s : get_or starts q 0 < get_or leaves q 0 = (interval q lt).some in
                all_before c starts q (get_or leaves q 0) state.starts_each
                (none q lt (omega (arith, d, le, left))) m left (omega (arith, s))

  -- the next interval begins later, so fewer are left
  pub fewer_left : (starts leaves : List ℕ) → AreBelowBoxes c good (length c) starts leaves → (q : ℕ)
      → LeavesEarly c starts leaves q → (new_starts new_leaves : List ℕ)
      → HasEntered (good q) q (event_count c q) (get_or leaves q 0) starts leaves new_starts new_leaves
      → total c - sum new_starts < total c - sum starts
  fewer_left starts leaves state q early new_starts new_leaves entered =
      go (cases_lt (sum starts) (sum new_starts))
    where
      next : AreBelowBoxes c good (length c) new_starts new_leaves
      next = entered_next starts leaves state q early new_starts new_leaves entered

      long : length starts ≡ length new_starts
      long = state.starts_each ∙ sym next.starts_each

      here : get_or starts q 0 < get_or new_starts q 0
      here =
          let a : get_or new_starts q 0 ≡ entered.start =
          start_same (length c) starts leaves state q (get_or leaves q 0) early.0 new_starts new_leaves entered
          (later starts leaves state q early) in
          let b : get_or starts q 0 < get_or leaves q 0 = (state.intervals q early.0).some in
          let d : get_or leaves q 0 ≤ entered.start = entered.low in
          omega (arith, a, b, d)

      up : (r : ℕ) → get_or starts r 0 ≤ get_or new_starts r 0
      up r = at (cases_eq r q)
        where
          at : (r ≡ q) ⊎ (r ≡ q → ⊥) → get_or starts r 0 ≤ get_or new_starts r 0
          at (inl same) =
              let h : get_or starts q 0 < get_or new_starts q 0 = here in
              subst (λ (i : ℕ). get_or starts i 0 ≤ get_or new_starts i 0) (sym same) (omega (arith, h))
          at (inr apart) =
              let e : get_or new_starts r 0 ≡ get_or starts r 0 =
              start_other (length c) starts leaves state q (get_or leaves q 0) early.0 new_starts new_leaves entered
              (later starts leaves state q early) r apart in
              omega (arith, e)

      all : sum new_starts ≤ total c
      all = sum_le new_starts (full_cut c) within (next.starts_each ∙ sym (length_full c))
        where
          within : (p : ℕ) → get_or new_starts p 0 ≤ get_or (full_cut c) p 0
          within p = at (cases_lt 0 (get_or new_starts p 0))
            where
              at : (0 < get_or new_starts p 0) ⊎ (get_or new_starts p 0 ≤ 0)
                  → get_or new_starts p 0 ≤ get_or (full_cut c) p 0
              at (inr zero_there) = omega arith
              at (inl has) =
                  let l : length new_starts ≡ length c = next.starts_each in
                  let t : p < length new_starts = in_range new_starts p has in
                  let i : IsInterval (good p) (event_count c p) (get_or new_starts p 0) (get_or new_leaves p 0) =
                  next.intervals p (omega (arith, l, t)) in
                  let a : get_or new_starts p 0 < get_or new_leaves p 0 = i.some in
                  let b : get_or new_leaves p 0 ≤ event_count c p + 1 = i.within in
                  let d : get_or (full_cut c) p 0 ≡ event_count c p = full_at c p in
                  omega (arith, a, b, d)

      go : (sum starts < sum new_starts) ⊎ (sum new_starts ≤ sum starts)
          → total c - sum new_starts < total c - sum starts
      go (inl less) = let a : sum new_starts ≤ total c = all in omega (arith, a, less)
      go (inr le) =
          let s : sum starts ≤ sum new_starts = sum_le starts new_starts up long in
          let same : starts ≡ new_starts = same_from_sum starts new_starts long up (omega (arith, s, le)) in
          let e : get_or starts q 0 ≡ get_or new_starts q 0 = ap (λ (xs : List ℕ). get_or xs q 0) same in
          let h : get_or starts q 0 < get_or new_starts q 0 = here in
          absurd (omega (arith, e, h))
