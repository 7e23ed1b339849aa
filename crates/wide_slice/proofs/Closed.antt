-- Closed sets of steps, and cuts of the slice.
use Rattle.std.proofs.Common.{◌≡◌, ◌≢◌, ℕ, ◌*◌, ◌<◌, ◌≤◌, Bool, true, false, List, length, ℤ, ◌+ℤ◌, ◌≤ℤ◌, get_or, refl, sym, ap, ◌∙◌, subst, ◌⊎◌, inl, inr, arith}
use Rattle.std.specs.Global.{Global}
use Rattle.std.specs.Prelude.{Vec, nat_le}
use Rattle.std.proofs.lemmas.Bool.{cases_Bool, cases_eq, cases_lt, false≢true, le-leb, leb-true, lt-leb}
use Rattle.def_format.specs.Limits.{event_limit, process_limit}
use Rattle.def_model.specs.Events.{Computation}
use Rattle.def_model.specs.Lattice.{IsWithin}
use Rattle.wide_conjunctions.specs.LeastCuts.{IsLeastGood}
use Rattle.wide_flow.specs.Steps.{step_at}
use Rattle.wide_flow.specs.declared.step.Step.{Step}
use Rattle.wide_slice.specs.Goods.{IsInside, good_from}
use Rattle.wide_slice.specs.Points.{IsRow, count_at, flag, flags_at, row_at}
use Rattle.wide_slice.specs.Slices.{IsSlice}
use Rattle.wide_slice.specs.Steps.{ArePastsWithin, AreStepsOf, HasStep, IsClosedSet, weight_of}
use Rattle.wide_slice.specs.Values.{AreValues, sum_at}
use Rattle.wide_slice.specs.declared.slice.Slice.{Slice}
use Rattle.wide_slice.proofs.Goods.{good_there, good_up}
use Rattle.wide_slice.proofs.Joins.{joined, joined_bound, joined_from, joined_inside, joined_member}
use Rattle.wide_slice.proofs.Made.{AreMade, IsMadeStep, IsUpToCut, Stands, made_each, made_exact, made_few, made_ordered, made_upper}
use Rattle.wide_slice.proofs.Sums.{sum_is, sum_upto}

module _ (c : Computation) (good : ℕ → ℕ → Bool) (slice : Slice) (values : List (Vec ℤ Global))
    (is : IsSlice c good slice) (fit : AreValues c values) (steps : List Step)
    (made : AreMade slice.rows.items slice.asked.items values slice.least.items (length c) steps) where
  -- what is known of a step
  module _ (i : ℕ) (lt : i < length steps) where
    step_is : IsMadeStep slice.rows.items slice.asked.items values slice.least.items (length c) (step_at steps i)
    step_is =
        made_each slice.rows.items slice.asked.items values slice.least.items (length c) steps made i lt

    row_is : IsRow c good (step_at steps i).process (get_or slice.least.items (step_at steps i).process 0)
        (row_at slice.rows.items (step_at steps i).process)
    row_is = is.rows.each (step_at steps i).process step_is.low

    past_least : IsLeastGood c (good_from good (step_at steps i).process (step_at steps i).count)
        (step_at steps i).past.now
    past_least =
        subst (λ (s : ℕ × List ℕ). IsLeastGood c (good_from good (step_at steps i).process s.0) s.1)
        (λ k. (sym step_is.is.count_is k, sym step_is.is.past_is k))
        (row_is.each step_is.is.place step_is.is.there)

    own_count : get_or (step_at steps i).past.now (step_at steps i).process 0 ≡ (step_at steps i).count
    own_count =
        ap (λ (xs : List ℕ). get_or xs (step_at steps i).process 0) step_is.is.past_is
        ∙ (row_is.own step_is.is.place step_is.is.there ∙ sym step_is.is.count_is)

    after_low : get_or slice.least.items (step_at steps i).process 0 < (step_at steps i).count
    after_low =
        let above : get_or slice.least.items (step_at steps i).process 0
        < count_at (row_at slice.rows.items (step_at steps i).process) step_is.is.place =
        row_is.above step_is.is.place step_is.is.there in
        omega (arith, above, step_is.is.count_is)

    past_inside : IsInside c good (step_at steps i).past.now
    past_inside = (
      past_least.consistent,
      good_there good (step_at steps i).process (step_at steps i).count (step_at steps i).past.now
          past_least.good_there,
    )

    past_within : (cut : List ℕ) → IsInside c good cut
        → (step_at steps i).count ≤ get_or cut (step_at steps i).process 0 → IsWithin (step_at steps i).past.now cut
    past_within cut inside le =
        past_least.least cut inside.0
        (good_up good (step_at steps i).process (step_at steps i).count cut inside.1 le)

    asked_there : (q : ℕ) → q < length c → (step_at steps i).process ≢ q
        → flag (flags_at slice.asked.items q) (get_or (step_at steps i).past.now q 0) ≡ true
    asked_there q less apart =
        ap (λ (xs : List ℕ). flag (flags_at slice.asked.items q) (get_or xs q 0)) step_is.is.past_is
        ∙ (is.asked.each q less).by_each (step_at steps i).process step_is.low apart step_is.is.place
        step_is.is.there

  least_inside : IsInside c good slice.least.items
  least_inside = (is.least.consistent, is.least.good_there)

  sum_there : (cut : List ℕ) → IsInside c good cut → sum_at values cut ≡ sum_upto values (length c) cut
  sum_there cut inside =
      sum_is values cut (inside.0.fits.one_each ∙ sym fit.one_each)
      ∙ ap (λ (n : ℕ). sum_upto values n cut) fit.one_each

  -- a closed set has the steps up to the join of its pasts
  module _ (set : ℕ → ℕ → Bool) (closed : IsClosedSet steps set) where
    has_step : (i : ℕ) → i < length steps
        → (step_at steps i).count ≤ get_or (joined set slice.least.items steps) (step_at steps i).process 0
        → set (step_at steps i).process (step_at steps i).count ≡ true
    has_step i lt le = go (joined_from set slice.least.items steps (step_at steps i).process)
      where
        go : (get_or (joined set slice.least.items steps) (step_at steps i).process 0
            ≡ get_or slice.least.items (step_at steps i).process 0)
            ⊎ ((e : ℕ) × (e < length steps) × HasStep set (step_at steps e)
            × (get_or (joined set slice.least.items steps) (step_at steps i).process 0
            ≡ get_or (step_at steps e).past.now (step_at steps i).process 0))
            → set (step_at steps i).process (step_at steps i).count ≡ true
        go (inl same) = absurd (omega (arith, le, same, after_low i lt))
        go (inr (e, there, has, same)) = closed i e lt there (omega (arith, le, same)) has

    up_to : IsUpToCut slice.rows.items slice.asked.items values slice.least.items set
        (joined set slice.least.items steps) steps
    up_to i lt = go (cases_Bool (set (step_at steps i).process (step_at steps i).count))
      where
        below : (get_or (joined set slice.least.items steps) (step_at steps i).process 0 < (step_at steps i).count)
            ⊎ ((step_at steps i).count ≤ get_or (joined set slice.least.items steps) (step_at steps i).process 0)
            → set (step_at steps i).process (step_at steps i).count ≡ false
            → get_or (joined set slice.least.items steps) (step_at steps i).process 0 < (step_at steps i).count
        below (inl less) out = less
        below (inr le) out = absurd (false≢true (sym out ∙ has_step i lt le))

        go : (set (step_at steps i).process (step_at steps i).count ≡ true)
            ⊎ (set (step_at steps i).process (step_at steps i).count ≡ false)
            → set (step_at steps i).process (step_at steps i).count
            ≡ nat_le (step_at steps i).count
            (get_or (joined set slice.least.items steps) (step_at steps i).process 0)
        go (inl has) =
            let up : get_or (step_at steps i).past.now (step_at steps i).process 0
            ≤ get_or (joined set slice.least.items steps) (step_at steps i).process 0 =
            joined_member set slice.least.items steps i lt has (step_at steps i).process in
            has
            ∙ sym (le-leb (step_at steps i).count
            (get_or (joined set slice.least.items steps) (step_at steps i).process 0)
            (omega (arith, up, own_count i lt)))
        go (inr out) =
            out
            ∙ sym (lt-leb (step_at steps i).count
            (get_or (joined set slice.least.items steps) (step_at steps i).process 0)
            (below (cases_lt (get_or (joined set slice.least.items steps) (step_at steps i).process 0)
            (step_at steps i).count) out))

    stands : (q : ℕ) → q < length c
        → Stands slice.rows.items slice.asked.items values slice.least.items (joined set slice.least.items steps)
        steps q
    stands q less = go (joined_from set slice.least.items steps q)
      where
        at_other : (e : ℕ) (lt : e < length steps) → (step_at steps e).process ≢ q
            → get_or (joined set slice.least.items steps) q 0 ≡ get_or (step_at steps e).past.now q 0
            → (get_or (step_at steps e).past.now q 0 ≡ get_or slice.least.items q 0)
            ⊎ ((k : ℕ) × (k < length (row_at slice.rows.items q))
            × (count_at (row_at slice.rows.items q) k ≡ get_or (step_at steps e).past.now q 0))
            → Stands slice.rows.items slice.asked.items values slice.least.items
            (joined set slice.least.items steps) steps q
        at_other e lt apart same (inl low) = inl (same ∙ low)
        at_other e lt apart same (inr (k, there, at)) =
            inr (inr (
              k,
              there,
              at ∙ sym same,
              ap (λ (n : ℕ). flag (flags_at slice.asked.items q) n) same ∙ asked_there e lt q less apart,
            ))

        from_step : (e : ℕ) (lt : e < length steps)
            → get_or (joined set slice.least.items steps) q 0 ≡ get_or (step_at steps e).past.now q 0
            → ((step_at steps e).process ≡ q) ⊎ ((step_at steps e).process ≢ q)
            → Stands slice.rows.items slice.asked.items values slice.least.items
            (joined set slice.least.items steps) steps q
        from_step e lt same (inl own) =
            inr (inl (
              e,
              lt,
              own,
              sym (own_count e lt)
                  ∙ (ap (λ (p : ℕ). get_or (step_at steps e).past.now p 0) own ∙ sym same),
            ))
        from_step e lt same (inr apart) =
            at_other e lt apart same ((is.rows.each q less).all (step_at steps e).past.now (past_inside e lt))

        go : (get_or (joined set slice.least.items steps) q 0 ≡ get_or slice.least.items q 0)
            ⊎ ((e : ℕ) × (e < length steps) × HasStep set (step_at steps e)
            × (get_or (joined set slice.least.items steps) q 0 ≡ get_or (step_at steps e).past.now q 0))
            → Stands slice.rows.items slice.asked.items values slice.least.items
            (joined set slice.least.items steps) steps q
        go (inl same) = inl same
        go (inr (e, there, has, same)) = from_step e there same (cases_eq (step_at steps e).process q)

    pub of_set : (bound : List ℕ) → IsWithin slice.least.items bound → ArePastsWithin steps set bound
        → (cut : List ℕ) × IsInside c good cut × IsWithin cut bound
        × (sum_at values cut ≡ sum_at values slice.least.items +ℤ weight_of set steps)
    of_set bound below within = (
      joined set slice.least.items steps,
      inside,
      joined_bound set slice.least.items steps bound below within,
      sum_there (joined set slice.least.items steps) inside
          ∙ (made_exact slice.rows.items slice.asked.items values slice.least.items (length c) steps made set
          (joined set slice.least.items steps) up_to stands
          ∙ ap (λ (z : ℤ). z +ℤ weight_of set steps) (sym (sum_there slice.least.items least_inside))),
    )
      where
        inside : IsInside c good (joined set slice.least.items steps)
        inside = joined_inside set slice.least.items c good least_inside steps past_inside

  -- the set of the steps up to a cut
  pub of_cut : (cut : List ℕ) → IsInside c good cut
      → (set : ℕ → ℕ → Bool) × IsClosedSet steps set × ArePastsWithin steps set cut
      × (sum_at values cut ≤ℤ (sum_at values slice.least.items +ℤ weight_of set steps))
  of_cut cut inside = (
    λ p n. nat_le n (get_or cut p 0),
    λ f e lt_f lt_e past has.
        let up : get_or (step_at steps e).past.now (step_at steps f).process 0
        ≤ get_or cut (step_at steps f).process 0 = within e lt_e has (step_at steps f).process in
        le-leb (step_at steps f).count (get_or cut (step_at steps f).process 0) (omega (arith, past, up)),
    within,
    subst (λ (s : ℤ × ℤ). s.0 ≤ℤ (s.1 +ℤ weight_of (λ p n. nat_le n (get_or cut p 0)) steps))
        (λ k. (sym (sum_there cut inside) k, sym (sum_there slice.least.items least_inside) k))
        (made_upper slice.rows.items slice.asked.items values slice.least.items (length c) steps made
        (λ p n. nat_le n (get_or cut p 0)) cut (λ i lt. refl)
        (λ q less. (is.rows.each q less).all cut inside)),
  )
    where
      within : (e : ℕ) → e < length steps
          → nat_le (step_at steps e).count (get_or cut (step_at steps e).process 0) ≡ true
          → IsWithin (step_at steps e).past.now cut
      within e lt has =
          past_within e lt cut inside (leb-true (step_at steps e).count (get_or cut (step_at steps e).process 0) has)

  pub steps_are : length c ≤ process_limit → AreStepsOf c good values slice.least.items steps
  steps_are few = record {
    few =
        let many : length steps ≤ length c * event_limit =
        made_few slice.rows.items slice.asked.items values slice.least.items c good is.rows (length c) steps
        (omega arith) made in
        omega (arith, many, few);
    small = λ i lt. (step_is i lt).is.small;
    there = λ i lt. (step_is i lt).low;
    one_each = λ i lt. (past_least i lt).consistent.fits.one_each;
    own = own_count;
    transitive = λ f e lt_f lt_e past. past_within f lt_f (step_at steps e).past.now (past_inside e lt_e) past;
    ordered =
        made_ordered slice.rows.items slice.asked.items values slice.least.items (length c) steps made;
    after_least = λ i lt. is.least.least (step_at steps i).past.now (past_inside i lt).0 (past_inside i lt).1;
    to_cut = of_set;
    from_cut = of_cut;
  }
