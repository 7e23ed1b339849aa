-- What is seen at the beginning and after each kept event is seen wherever two runs are equally far, since no other
-- event changes it; so a run that is made of a window is a reduction of it.
use Rattle.std.proofs.Common.{◌≡◌, ℕ, zero, suc, ◌+◌, ◌<◌, ◌≤◌, ◌-◌, Bool, true, false, IsTrue, List, [], ◌∷◌, get_or, ℤ, pos, ◌+ℤ◌, ◌*ℤ◌, refl, sym, ap, ap₂, ◌∙◌, subst, inl, inr, ◌⊎◌, ◌↔◌, arith, add-one}
use Rattle.std.proofs.lemmas.Bool.{cases_Bool, cases_eq, cases_lt, false≢true}
use Rattle.def_model.specs.Events.{Place, place, event_count}
use Rattle.def_model.specs.Cuts.{empty_cut, full_cut}
use Rattle.def_model.specs.Decided.{NameAlone}
use Rattle.def_model.specs.Predicates.{Sign, Term, Number, Variable, Times, Predicate, Always, Never, Compare, Not, And, Or, Recorded, compares, signed, sum_value, test_of}
use Rattle.def_model.specs.Observations.{Possibly}
use Rattle.def_model.proofs.Chains.{same_place}
use Rattle.def_model.proofs.Counts.{empty_at, full_at}
use Rattle.def_long.specs.Kept.{IsKept}
use Rattle.def_long.specs.Laws.{DefinitelyOfMadeRun, MadeRunReduces, PossiblyOfMadeRun}
use Rattle.def_long.specs.MadeRuns.{IsMadeOf}
use Rattle.def_long.specs.Reductions.{HaveSameEvents, IsReduction}
use Rattle.def_long.specs.Windows.{IsWindow, PossiblyIn, whole, window}
use Rattle.def_long.specs.Renamed.{AreEquallyFar, HaveValuesOf, Names, SeesTheSameIn, renamed, renamed_sum}
use Rattle.def_long.specs.Views.{HaveSameValues, SeesTheSame, value_after}
use Rattle.def_long.proofs.MadeOrder.{messages_keep_order, messages_make_no_cycle}
use Rattle.def_long.proofs.Reduced.{definitely_of_reduction, possibly_of_reduction}
use Rattle.def_long.proofs.RenamedViews.{renamed_alone, same_views_reduce}
use Rattle.def_long.proofs.WindowCuts.{possibly_in_whole, run_is_window}

-- ---- sums of one process

-- with the same values in both runs
alone_in_both : (r r' : Recorded) (names : Names) (p m n : ℕ) (sum : List (Sign × Term)) → NameAlone p sum
    → HaveValuesOf r m r' n names p sum
    → sum_value (value_after r m) sum ≡ sum_value (value_after r' n) (renamed_sum names sum)
alone_in_both r r' names p m n [] alone have = refl
alone_in_both r r' names p m n ((sign, Number k) ∷ rest) alone have =
    ap (λ (z : ℤ). signed sign (pos k) +ℤ z) (alone_in_both r r' names p m n rest alone.1 have.1)
alone_in_both r r' names p m n ((sign, Variable q v) ∷ rest) alone have =
    ap₂ (λ (y z : ℤ). signed sign y +ℤ z) (have.0 alone.0) (alone_in_both r r' names p m n rest alone.1 have.1)
alone_in_both r r' names p m n ((sign, Times k q v) ∷ rest) alone have =
    ap₂ (λ (y z : ℤ). signed sign (pos k *ℤ y) +ℤ z) (have.0 alone.0)
    (alone_in_both r r' names p m n rest alone.1 have.1)

-- with the same values after m and after n events
alone_stays : (r : Recorded) (p m n : ℕ) (sum : List (Sign × Term)) → NameAlone p sum → HaveSameValues r p m n sum
    → sum_value (value_after r m) sum ≡ sum_value (value_after r n) sum
alone_stays r p m n [] alone have = refl
alone_stays r p m n ((sign, Number k) ∷ rest) alone have =
    ap (λ (z : ℤ). signed sign (pos k) +ℤ z) (alone_stays r p m n rest alone.1 have.1)
alone_stays r p m n ((sign, Variable q v) ∷ rest) alone have =
    ap₂ (λ (y z : ℤ). signed sign y +ℤ z) (have.0 alone.0) (alone_stays r p m n rest alone.1 have.1)
alone_stays r p m n ((sign, Times k q v) ∷ rest) alone have =
    ap₂ (λ (y z : ℤ). signed sign (pos k *ℤ y) +ℤ z) (have.0 alone.0) (alone_stays r p m n rest alone.1 have.1)

-- ---- an unseen event more in the first run

module _ (r r' : Recorded) (names : Names) (p m k n : ℕ) where
  values_after : (sum : List (Sign × Term)) → HaveValuesOf r m r' n names p sum → HaveSameValues r p m k sum
      → HaveValuesOf r k r' n names p sum
  values_after [] have stay = tt
  values_after ((sign, Number c) ∷ rest) have stay = (tt, values_after rest have.1 stay.1)
  values_after ((sign, Variable q v) ∷ rest) have stay =
      (λ at. sym (stay.0 at) ∙ have.0 at, values_after rest have.1 stay.1)
  values_after ((sign, Times c q v) ∷ rest) have stay =
      (λ at. sym (stay.0 at) ∙ have.0 at, values_after rest have.1 stay.1)

  pub sees_after : (predicate : Predicate) → SeesTheSameIn r m r' n names p predicate
      → SeesTheSame r p m k predicate → SeesTheSameIn r k r' n names p predicate
  sees_after Always sees stay = tt
  sees_after Never sees stay = tt
  sees_after (Compare left comparison right) (inl truth) (inl same) =
      inl (record {
        left_alone = truth.left_alone;
        right_alone = truth.right_alone;
        same = sym same.same ∙ truth.same;
      })
  sees_after (Compare left comparison right) (inl truth) (inr stay) =
      inl (record {
        left_alone = truth.left_alone;
        right_alone = truth.right_alone;
        same = sym (ap₂ (compares comparison) (alone_stays r p m k left truth.left_alone stay.0)
            (alone_stays r p m k right truth.right_alone stay.1)) ∙ truth.same;
      })
  sees_after (Compare left comparison right) (inr have) (inl same) =
      inl (record {
        left_alone = same.left_alone;
        right_alone = same.right_alone;
        same = sym same.same
            ∙ ap₂ (compares comparison) (alone_in_both r r' names p m n left same.left_alone have.0)
            (alone_in_both r r' names p m n right same.right_alone have.1);
      })
  sees_after (Compare left comparison right) (inr have) (inr stay) =
      inr (values_after left have.0 stay.0, values_after right have.1 stay.1)
  sees_after (Not inner) sees stay = sees_after inner sees stay
  sees_after (And left right) sees stay = (sees_after left sees.0 stay.0, sees_after right sees.1 stay.1)
  sees_after (Or left right) sees stay = (sees_after left sees.0 stay.0, sees_after right sees.1 stay.1)

-- ---- one more in the second

module _ (r r' : Recorded) (names : Names) (p m n k : ℕ)
    (one_place : (q q' : ℕ) → names.process q ≡ names.process q' → q ≡ q') where
  own_alone : (sum : List (Sign × Term)) → NameAlone (names.process p) (renamed_sum names sum) → NameAlone p sum
  own_alone [] alone = tt
  own_alone ((sign, Number c) ∷ rest) alone = (tt, own_alone rest alone.1)
  own_alone ((sign, Variable q v) ∷ rest) alone = (one_place q p alone.0, own_alone rest alone.1)
  own_alone ((sign, Times c q v) ∷ rest) alone = (one_place q p alone.0, own_alone rest alone.1)

  values_onward : (sum : List (Sign × Term)) → HaveValuesOf r m r' n names p sum
      → HaveSameValues r' (names.process p) n k (renamed_sum names sum) → HaveValuesOf r m r' k names p sum
  values_onward [] have stay = tt
  values_onward ((sign, Number c) ∷ rest) have stay = (tt, values_onward rest have.1 stay.1)
  values_onward ((sign, Variable q v) ∷ rest) have stay =
      (λ at. have.0 at ∙ stay.0 (ap names.process at), values_onward rest have.1 stay.1)
  values_onward ((sign, Times c q v) ∷ rest) have stay =
      (λ at. have.0 at ∙ stay.0 (ap names.process at), values_onward rest have.1 stay.1)

  pub sees_onward : (predicate : Predicate) → SeesTheSameIn r m r' n names p predicate
      → SeesTheSame r' (names.process p) n k (renamed names predicate) → SeesTheSameIn r m r' k names p predicate
  sees_onward Always sees stay = tt
  sees_onward Never sees stay = tt
  sees_onward (Compare left comparison right) (inl truth) (inl same) =
      inl (record {
        left_alone = truth.left_alone;
        right_alone = truth.right_alone;
        same = truth.same ∙ same.same;
      })
  sees_onward (Compare left comparison right) (inl truth) (inr stay) =
      inl (record {
        left_alone = truth.left_alone;
        right_alone = truth.right_alone;
        same = truth.same
            ∙ ap₂ (compares comparison)
            (alone_stays r' (names.process p) n k (renamed_sum names left)
            (renamed_alone names p left truth.left_alone) stay.0)
            (alone_stays r' (names.process p) n k (renamed_sum names right)
            (renamed_alone names p right truth.right_alone) stay.1);
      })
  sees_onward (Compare left comparison right) (inr have) (inl same) =
      inl (record {
        left_alone = own_alone left same.left_alone;
        right_alone = own_alone right same.right_alone;
        same = ap₂ (compares comparison)
            (alone_in_both r r' names p m n left (own_alone left same.left_alone) have.0)
            (alone_in_both r r' names p m n right (own_alone right same.right_alone) have.1) ∙ same.same;
      })
  sees_onward (Compare left comparison right) (inr have) (inr stay) =
      inr (values_onward left have.0 stay.0, values_onward right have.1 stay.1)
  sees_onward (Not inner) sees stay = sees_onward inner sees stay
  sees_onward (And left right) sees stay = (sees_onward left sees.0 stay.0, sees_onward right sees.1 stay.1)
  sees_onward (Or left right) sees stay = (sees_onward left sees.0 stay.0, sees_onward right sees.1 stay.1)

-- ---- wherever both are equally far

module _ (r r' : Recorded) (from to : List ℕ) (kept kept' : Place → Bool) (predicate : Predicate) (names : Names)
    (is : IsWindow (window r.events from to)) (made : IsMadeOf r from to kept predicate r' kept' names) (p : ℕ) where
  abbrev Equally : ℕ → ℕ → Type 0
  Equally m n =
      AreEquallyFar (window r.events from to) kept (whole r'.events) names made.order.image p m n

  abbrev Sees : ℕ → ℕ → Type 0
  Sees m n = SeesTheSameIn r m r' n names p predicate

  kept_at : (m n : ℕ) → Equally m n → get_or from p 0 < m → IsTrue (kept (place p m))
      → IsKept (window r.events from to) kept (place p m)
  kept_at m n far low t = record {
    is_kept = t;
    after = λ i. let high : m ≤ get_or from p 0 = i.1 in omega arith;
    before = (omega arith, far.high);
  }

  -- a kept event of the second run in this process is the image of one of the first that is among the first m
  origin_at : (m n : ℕ) → Equally m (n + 1) → IsTrue (kept' (place (names.process p) (n + 1)))
      → (k : ℕ) × IsKept (window r.events from to) kept (place p k) × (k ≤ m)
      × (made.order.image (place p k) ≡ place (names.process p) (n + 1))
  origin_at m n far t = go (made.order.origin there) refl
    where
      there : Place
      there = place (names.process p) (n + 1)

      is_there : IsKept (whole r'.events) kept' there
      is_there =
          let high : n + 1 ≤ get_or (full_cut r'.events) (names.process p) 0 = far.high' in record {
            is_kept = t;
            after = λ i. let none : get_or (empty_cut r'.events) (names.process p) 0 ≡ 0 =
                empty_at r'.events (names.process p) in
                let low : n + 1 ≤ get_or (empty_cut r'.events) (names.process p) 0 = i.1 in omega arith;
            before = (omega arith, high);
          }

      go : (o : Place) → made.order.origin there ≡ o → (k : ℕ)
          × IsKept (window r.events from to) kept (place p k) × (k ≤ m)
          × (made.order.image (place p k) ≡ place (names.process p) (n + 1))
      go o at = (o.number, is_own, (far.same o.number is_own).1 few, image_at)
        where
          is_o : IsKept (window r.events from to) kept o
          is_o = subst (IsKept (window r.events from to) kept) at (made.order.origin_kept there is_there)

          image_of : made.order.image o ≡ there
          image_of = ap made.order.image (sym at) ∙ made.order.image_of_origin there is_there

          own : o.process ≡ p
          own =
              made.one_place o.process p
              (sym (made.processes o is_o) ∙ ap (λ (x : Place). x.process) image_of)

          is_own : IsKept (window r.events from to) kept (place p o.number)
          is_own =
              subst (IsKept (window r.events from to) kept) (same_place o (place p o.number) own refl) is_o

          image_at : made.order.image (place p o.number) ≡ place (names.process p) (n + 1)
          image_at = ap made.order.image (sym (same_place o (place p o.number) own refl)) ∙ image_of

          few : (made.order.image (place p o.number)).number ≤ n + 1
          few =
              let same : (made.order.image (place p o.number)).number ≡ n + 1 =
              ap (λ (x : Place). x.number) image_at in omega arith

  -- back to one event fewer that isn't kept
  far_before : (m n : ℕ) → Equally (m + 1) n → get_or from p 0 ≤ m → kept (place p (m + 1)) ≡ false → Equally m n
  far_before m n far low out = record {
    low = low;
    high = let high : m + 1 ≤ get_or to p 0 = far.high in omega arith;
    low' = far.low';
    high' = far.high';
    same = λ k is_kept. (to_image k is_kept, from_image k is_kept);
  }
    where
      to_image : (k : ℕ) → IsKept (window r.events from to) kept (place p k) → k ≤ m
          → (made.order.image (place p k)).number ≤ n
      to_image k is_kept le = (far.same k is_kept).0 (omega arith)

      from_image : (k : ℕ) → IsKept (window r.events from to) kept (place p k)
          → (made.order.image (place p k)).number ≤ n → k ≤ m
      from_image k is_kept le = go (cases_eq k (m + 1))
        where
          most : k ≤ m + 1
          most = (far.same k is_kept).1 le

          go : (k ≡ m + 1) ⊎ (k ≡ m + 1 → ⊥) → k ≤ m
          go (inl same) =
              absurd (false≢true (sym out ∙ subst (λ (x : ℕ). IsTrue (kept (place p x))) same is_kept.is_kept))
          go (inr apart) = omega (arith, most)

  far_before' : (m n : ℕ) → Equally m (n + 1) → kept' (place (names.process p) (n + 1)) ≡ false → Equally m n
  far_before' m n far out = record {
    low = far.low;
    high = far.high;
    low' = let none : get_or (empty_cut r'.events) (names.process p) 0 ≡ 0 =
        empty_at r'.events (names.process p) in omega arith;
    high' = let high : n + 1 ≤ get_or (full_cut r'.events) (names.process p) 0 = far.high' in omega arith;
    same = λ k is_kept. (to_image k is_kept, from_image k is_kept);
  }
    where
      to_image : (k : ℕ) → IsKept (window r.events from to) kept (place p k) → k ≤ m
          → (made.order.image (place p k)).number ≤ n
      to_image k is_kept le = go (cases_eq (made.order.image (place p k)).number (n + 1))
        where
          most : (made.order.image (place p k)).number ≤ n + 1
          most = (far.same k is_kept).0 le

          there : made.order.image (place p k) ≡ place (names.process p) (made.order.image (place p k)).number
          there =
              same_place (made.order.image (place p k))
              (place (names.process p) (made.order.image (place p k)).number)
              (made.processes (place p k) is_kept) refl

          go : ((made.order.image (place p k)).number ≡ n + 1) ⊎ ((made.order.image (place p k)).number ≡ n + 1 → ⊥)
              → (made.order.image (place p k)).number ≤ n
          go (inl same) =
              absurd (false≢true (sym out ∙ subst (λ (x : ℕ). IsTrue (kept' (place (names.process p) x))) same
              (subst (λ (x : Place). IsTrue (kept' x)) there
              (made.order.image_kept (place p k) is_kept).is_kept)))
          go (inr apart) = omega (arith, most)

      from_image : (k : ℕ) → IsKept (window r.events from to) kept (place p k)
          → (made.order.image (place p k)).number ≤ n → k ≤ m
      from_image k is_kept le = (far.same k is_kept).1 (omega arith)

  -- what is known up to a number of events of both
  abbrev AreSeenTo : ℕ → Type 0
  AreSeenTo left = (m n : ℕ) → m + n ≤ left → Equally m n → Sees m n

  at_first : (m n : ℕ) → m ≡ get_or from p 0 → n ≡ 0 → Sees m n
  at_first m n is_m is_n =
      subst (λ (x : ℕ). Sees m x) (sym is_n) (subst (λ (x : ℕ). Sees x 0) (sym is_m) (made.first_view p))

  step_back : (left m n : ℕ) → AreSeenTo left → m + n ≤ suc left → Equally m n → get_or from p 0 < m
      → kept (place p m) ≡ false → Sees m n
  step_back left m n rest few far low out = go (m - 1) (omega arith)
    where
      go : (k : ℕ) → m ≡ k + 1 → Sees m n
      go k same =
          subst (λ (x : ℕ). Sees x n) (sym same)
          (sees_after r r' names p k (k + 1) n predicate
          (rest k n (omega arith) (far_before k n far' (omega arith) out')) (made.unseen p k room out'))
        where
          far' : Equally (k + 1) n
          far' = subst (λ (x : ℕ). Equally x n) same far

          out' : kept (place p (k + 1)) ≡ false
          out' = subst (λ (x : ℕ). kept (place p x) ≡ false) same out

          room : k < event_count r.events p
          room =
              let high : m ≤ get_or to p 0 = far.high in
              let most : get_or to p 0 ≤ event_count r.events p = is.last.consistent.fits.within p in omega arith

  -- n + 1 events of the second run, of which the last one isn't kept
  step_back' : (left m n : ℕ) → AreSeenTo left → m + (n + 1) ≤ suc left → Equally m (n + 1)
      → kept' (place (names.process p) (n + 1)) ≡ false → Sees m (n + 1)
  step_back' left m n rest few far out =
      sees_onward r r' names p m n (n + 1) made.one_place predicate (rest m n (omega arith) (far_before' m n far out))
      (made.unseen' (names.process p) n room out)
    where
      room : n < event_count r'.events (names.process p)
      room =
          let high : n + 1 ≤ get_or (full_cut r'.events) (names.process p) 0 = far.high' in
          let most : get_or (full_cut r'.events) (names.process p) 0 ≡ event_count r'.events (names.process p) =
          full_at r'.events (names.process p) in omega arith

  -- with no event of the second run
  none_onward : (left m n : ℕ) → AreSeenTo left → m + n ≤ suc left → Equally m n → n ≡ 0 → Sees m n
  none_onward left m n rest few far none = go (cases_lt (get_or from p 0) m)
    where
      by : get_or from p 0 < m → (kept (place p m) ≡ true) ⊎ (kept (place p m) ≡ false) → Sees m n
      by low (inr out) = step_back left m n rest few far low out
      by low (inl t) =
          absurd (let is_kept : IsKept (window r.events from to) kept (place p m) = kept_at m n far low t in
          let high : (made.order.image (place p m)).number ≤ n = (far.same m is_kept).0 (omega arith) in
          let least : 1 ≤ (made.order.image (place p m)).number =
          (made.order.image_kept (place p m) is_kept).before.0 in omega arith)

      go : (get_or from p 0 < m) ⊎ (m ≤ get_or from p 0) → Sees m n
      go (inl low) = by low (cases_Bool (kept (place p m)))
      go (inr le) = let low : get_or from p 0 ≤ m = far.low in at_first m n (omega arith) none

  -- with a kept one as the last
  kept_onward : (left m n : ℕ) → AreSeenTo left → m + n ≤ suc left → Equally m n → (k : ℕ)
      → IsKept (window r.events from to) kept (place p k) → k ≤ m
      → made.order.image (place p k) ≡ place (names.process p) n → Sees m n
  kept_onward left m n rest few far k is_kept le at = go (cases_eq k m)
    where
      same_number : (made.order.image (place p k)).number ≡ n
      same_number = ap (λ (x : Place). x.number) at

      above : get_or from p 0 < k
      above = go (cases_lt (get_or from p 0) k)
        where
          go : (get_or from p 0 < k) ⊎ (k ≤ get_or from p 0) → get_or from p 0 < k
          go (inl lt) = lt
          go (inr few) = absurd (is_kept.after (is_kept.before.0, few))

      by : k < m → (kept (place p m) ≡ true) ⊎ (kept (place p m) ≡ false) → Sees m n
      by lt (inr out) = step_back left m n rest few far (omega (arith, above)) out
      by lt (inl t) =
          absurd (let is_m : IsKept (window r.events from to) kept (place p m) =
          kept_at m n far (omega (arith, above)) t in
          let high : (made.order.image (place p m)).number ≤ n = (far.same m is_m).0 (omega arith) in
          let more : (made.order.image (place p k)).number < (made.order.image (place p m)).number =
          made.order.same_turn (place p k) (place p m) is_kept is_m refl lt in omega (arith, same_number))

      go : (k ≡ m) ⊎ (k ≡ m → ⊥) → Sees m n
      go (inl same) =
          subst (λ (x : ℕ). Sees x n) same
          (subst (λ (x : ℕ). Sees k x) same_number (made.views (place p k) is_kept))
      go (inr apart) = by (omega arith) (cases_Bool (kept (place p m)))

  next_seen : (left : ℕ) → AreSeenTo left → AreSeenTo (suc left)
  next_seen left rest m zero few far = none_onward left m zero rest few far refl
  next_seen left rest m (suc n) few far =
      subst (λ (x : ℕ). Sees m x) (add-one n)
      (go (cases_Bool (kept' (place (names.process p) (n + 1)))))
    where
      far' : Equally m (n + 1)
      far' = subst (λ (x : ℕ). Equally m x) (sym (add-one n)) far

      go : (kept' (place (names.process p) (n + 1)) ≡ true) ⊎ (kept' (place (names.process p) (n + 1)) ≡ false)
          → Sees m (n + 1)
      go (inr out) = step_back' left m n rest (omega arith) far' out
      go (inl t) = of (origin_at m n far' t)
        where
          of : (k : ℕ) × IsKept (window r.events from to) kept (place p k) × (k ≤ m)
              × (made.order.image (place p k) ≡ place (names.process p) (n + 1)) → Sees m (n + 1)
          of (k, is_kept, le, at) = kept_onward left m (n + 1) rest (omega arith) far' k is_kept le at

  sees_to : (left : ℕ) → AreSeenTo left
  sees_to zero = λ m n few far. let low : get_or from p 0 ≤ m = far.low in at_first m n (omega arith) (omega arith)
  sees_to (suc left) = next_seen left (sees_to left)

  pub sees_far : (m n : ℕ) → Equally m n → Sees m n
  sees_far m n far = sees_to (m + n) m n (omega arith) far

-- ---- a run that is made of a window

made_is_window : (r r' : Recorded) (from to : List ℕ) (kept kept' : Place → Bool) (predicate : Predicate)
    (names : Names) → IsWindow (window r.events from to) → IsMadeOf r from to kept predicate r' kept' names
    → IsWindow (whole r'.events)
made_is_window r r' from to kept kept' predicate names is made =
    run_is_window r'.events
    (messages_make_no_cycle (window r.events from to) r'.events kept kept' is made.order)

pub made_run_reduces : MadeRunReduces
made_run_reduces r r' from to kept kept' predicate names is made =
    go (messages_keep_order (window r.events from to) (whole r'.events) kept kept' is
    (made_is_window r r' from to kept kept' predicate names is made) made.order)
  where
    go : (events : HaveSameEvents (window r.events from to) kept (whole r'.events) kept')
        × (events.image ≡ made.order.image) × (events.origin ≡ made.order.origin)
        → IsReduction (window r.events from to) kept (test_of r predicate) (whole r'.events) kept'
        (test_of r' (renamed names predicate))
    go (events, images, origins) =
        same_views_reduce r r' predicate names from to (empty_cut r'.events) (full_cut r'.events) kept kept' events
        (λ e is_kept. ap (λ (f : Place → Place). (f e).process) images ∙ made.processes e is_kept) (λ p m n far.
        sees_far r r' from to kept kept' predicate names is made p m n
        (subst (λ (f : Place → Place). AreEquallyFar (window r.events from to) kept (whole r'.events) names f p m n)
        images far))

pub possibly_of_made_run : PossiblyOfMadeRun
possibly_of_made_run r r' from to kept kept' predicate names is made = (λ h. run.1 (both.0 h), λ h. both.1 (run.0 h))
  where
    both : PossiblyIn (window r.events from to) (test_of r predicate)
        ↔ PossiblyIn (whole r'.events) (test_of r' (renamed names predicate))
    both =
        possibly_of_reduction (window r.events from to) (whole r'.events) kept kept' (test_of r predicate)
        (test_of r' (renamed names predicate)) is (made_is_window r r' from to kept kept' predicate names is made)
        (made_run_reduces r r' from to kept kept' predicate names is made)

    run : Possibly r'.events (test_of r' (renamed names predicate))
        ↔ PossiblyIn (whole r'.events) (test_of r' (renamed names predicate))
    run = possibly_in_whole r'.events (test_of r' (renamed names predicate))

pub definitely_of_made_run : DefinitelyOfMadeRun
definitely_of_made_run r r' from to kept kept' predicate names is made =
    definitely_of_reduction (window r.events from to) (whole r'.events) kept kept' (test_of r predicate)
    (test_of r' (renamed names predicate)) is (made_is_window r r' from to kept kept' predicate names is made)
    (made_run_reduces r r' from to kept kept' predicate names is made)
