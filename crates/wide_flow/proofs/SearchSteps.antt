-- More payers are looked at.
use Rattle.std.proofs.Common.{◌≡◌, ◌≢◌, ℕ, zero, suc, ◌+◌, ◌<◌, ◌≤◌, max, List, [], ◌∷◌, ◌++◌, length, get_or, set, refl, sym, ap, ◌∙◌, subst, ◌⊎◌, inl, inr, arith, length-set, map}
use Rattle.std.specs.Global.{Global}
use Rattle.std.specs.Prelude.{Vec}
use Rattle.std.proofs.lemmas.Bool.{cases_eq, cases_lt}
use Rattle.std.proofs.lemmas.List.{get_or-set_same, get_or-set_other, length_push, length-map}
use Rattle.wide_flow.specs.declared.step.Step.{Step}
use Rattle.wide_flow.specs.declared.takes.Flow.{Flow}
use Rattle.wide_flow.specs.declared.reach.Reached.{Reached}
use Rattle.wide_flow.specs.Steps.{IsPast, step_at}
use Rattle.wide_flow.specs.Flows.{take_at}
use Rattle.wide_flow.specs.Rows.{IsManyUpTo, IsPayer, IsRow, row_of}
use Rattle.wide_flow.specs.Searches.{AreInPast, AreLookedAt, AreRaised, AreReached, AreTops, GoesOn, IsEnded, IsInReach, IsLookedAt, IsRaised, IsSearch, payer_at, reached_at}
use Rattle.wide_flow.proofs.Lists.{push_at}
use Rattle.wide_flow.proofs.Distinct.{at_most}
use Rattle.wide_flow.proofs.PaySteps.{are_once}
use Rattle.wide_flow.proofs.ReachSteps.{still_reached}

-- the payers up to a count are those in the past
pub in_past : (steps : List Step) (p : ℕ) (row : List ℕ) (e many : ℕ) → IsRow steps p row
    → IsManyUpTo steps row (get_or (step_at steps e).past.now p 0) many → AreInPast steps row e many
in_past steps p row e many are up = record {
  within = up.within;
  past = λ k lt.
      let l : many ≤ length row = up.within in
      let is : IsPayer steps p (get_or row k 0) = are.each k (omega (arith, lt, l)) in
      subst (λ (q : ℕ). (step_at steps (get_or row k 0)).count ≤ get_or (step_at steps e).past.now q 0) (sym is.own)
      (up.up_to k lt);
  all = λ k lt past.
      let is : IsPayer steps p (get_or row k 0) = are.each k lt in
      let here : (step_at steps (get_or row k 0)).count ≤ get_or (step_at steps e).past.now p 0 =
      subst (λ (q : ℕ). (step_at steps (get_or row k 0)).count ≤ get_or (step_at steps e).past.now q 0) is.own past in
      which k lt here (cases_lt k many);
}
  where
    which : (k : ℕ) → k < length row → (step_at steps (get_or row k 0)).count ≤ get_or (step_at steps e).past.now p 0
        → (k < many) ⊎ (many ≤ k) → k < many
    which k lt here (inl low) = low
    which k lt here (inr high) = absurd (omega (arith, here, up.above k high lt))

-- what was looked at stays so
pub still_looked : (flow : Flow) (old new : List Reached) (f : ℕ) → GoesOn old new → IsLookedAt flow old f
    → IsLookedAt flow new f
still_looked flow old new f on is = record {
  full = is.full;
  takers = λ i lt pays.
      still_reached old new (take_at flow.takes.items i).taker on (is.takers i lt pays);
}

pub looked_more : (flow : Flow) (old new : List Reached) (row : List ℕ) (from k : ℕ) → GoesOn old new
    → AreLookedAt flow old row from k → IsLookedAt flow new (get_or row k 0) → AreLookedAt flow new row from (k + 1)
looked_more flow old new row from k on are now i le lt = go (cases_eq i k)
  where
    go : (i ≡ k) ⊎ (i ≢ k) → IsLookedAt flow new (get_or row i 0)
    go (inl same) = subst (λ (n : ℕ). IsLookedAt flow new (get_or row n 0)) (sym same) now
    go (inr other) = still_looked flow old new (get_or row i 0) on (are i le (omega (arith, lt, other)))

-- one process more has its place
pub tops_more : (n : ℕ) (steps : List Step) (rows : List (Vec ℕ Global)) (frozen : List ℕ) (e : ℕ) (tops : List ℕ)
    (many : ℕ) → AreTops n steps rows frozen e tops → AreInPast steps (row_of rows n) e many
    → get_or frozen n 0 ≤ length (row_of rows n)
    → AreTops (n + 1) steps rows frozen e (tops ++ max many (get_or frozen n 0) ∷ [])
tops_more n steps rows frozen e tops many are in_row low = record {
  one_each = omega (arith, length_push tops top, are.one_each);
  within = λ p lt. all p lt (λ q (t : ℕ). t ≤ length (row_of rows q)) are.within (omega (arith, in_row.within, low));
  frozen_in = λ p lt. all p lt (λ q (t : ℕ). get_or frozen q 0 ≤ t) are.frozen_in (omega arith);
  past = λ p k lt.
      all p lt (λ q (t : ℕ). k < t → get_or frozen q 0 ≤ k → IsPast steps (payer_at rows q k) e)
      (λ q low. are.past q k low) (λ less high. in_row.past k (omega (arith, less, high)));
  all = λ p k lt.
      all p lt (λ q (t : ℕ). k < length (row_of rows q) → IsPast steps (payer_at rows q k) e → k < t)
      (λ q low. are.all q k low)
      (λ less past. let l : k < many = in_row.all k less past in omega (arith, l));
}
  where
    top : ℕ
    top = max many (get_or frozen n 0)

    all : (p : ℕ) → p < n + 1 → (P : ℕ → ℕ → Type 0) → ((q : ℕ) → q < n → P q (get_or tops q 0)) → P n top
        → P p (get_or (tops ++ top ∷ []) p 0)
    all p lt P old new =
        let count : length tops ≡ n = are.one_each in
        push_at P tops top 0 (λ q low. old q (omega (arith, low, count)))
        (subst (λ (m : ℕ). P m top) (sym count) new) p (omega (arith, lt, length_push tops top, count))

-- of one process more the payers in the past of a step were looked at
pub raised_more : (processes : ℕ) (steps : List Step) (rows : List (Vec ℕ Global)) (flow : Flow)
    (reached reached' : List Reached) (e : ℕ) (old new : List ℕ) (n end : ℕ)
    → AreRaised processes steps rows flow reached e old new n → GoesOn reached reached' → n < processes
    → IsRaised steps flow reached' (row_of rows n) e (get_or old n 0) end
    → AreRaised processes steps rows flow reached' e old (set new n end) (n + 1)
raised_more processes steps rows flow reached reached' e old new n end are on lt now = record {
  one_each = length-set new n end ∙ are.one_each;
  raised = λ p low. go p low (cases_eq p n);
  rest = λ p le low.
      get_or-set_other new n p end 0 (λ same. absurd (omega (arith, same, le))) ∙ are.rest p (omega (arith, le)) low;
}
  where
    go : (p : ℕ) → p < n + 1 → (p ≡ n) ⊎ (p ≢ n)
        → IsRaised steps flow reached' (row_of rows p) e (get_or old p 0) (get_or (set new n end) p 0)
    go p low (inl same) =
        subst (λ (s : ℕ × ℕ). IsRaised steps flow reached' (row_of rows s.0) e (get_or old s.0 0) s.1)
        (λ k. (
          sym same k,
          sym (ap (λ (m : ℕ). get_or (set new n end) m 0) same
              ∙ get_or-set_same new n end 0 (omega (arith, lt, are.one_each))) k,
        )) now
    go p low (inr other) =
        subst (λ (t : ℕ). IsRaised steps flow reached' (row_of rows p) e (get_or old p 0) t)
        (sym (get_or-set_other new n p end 0 other))
        (let is : IsRaised steps flow reached (row_of rows p) e (get_or old p 0) (get_or new p 0) =
        are.raised p (omega (arith, low, other)) in
        record {
          up = is.up;
          within = is.within;
          looked = λ k le less.
              still_looked flow reached reached' (get_or (row_of rows p) k 0) on (is.looked k le less);
          past = is.past;
          all = is.all;
        })

-- a search goes on at one step more
module _ (processes : ℕ) (steps : List Step) (rows : List (Vec ℕ Global)) (flow : Flow) (frozen : List ℕ) (e : ℕ)
    (old new : List Reached) (lows tops : List ℕ) (done : ℕ)
    (search : IsSearch processes steps rows flow frozen e old lows tops done) (on : GoesOn old new) where
  in_reach : (f : ℕ) → IsInReach steps old f → IsInReach steps new f
  in_reach f (j, lt, past) =
      let l : length old ≤ length new = on.longer in
      (j, omega (arith, lt, l), subst (λ (r : Reached). IsPast steps f r.step) (sym (on.same j lt)) past)

  same_step : (j : ℕ) → j < length old → (f : ℕ) → IsPast steps f (reached_at new j).step
      → IsPast steps f (reached_at old j).step
  same_step j lt f past = subst (λ (r : Reached). IsPast steps f r.step) (on.same j lt) past

  pub search_up : (tops' : List ℕ)
      → AreRaised processes steps rows flow new (reached_at old done).step tops tops' processes → done < length old
      → IsSearch processes steps rows flow frozen e new lows tops' (done + 1)
  search_up tops' raised there = record {
    lows_each = search.lows_each;
    tops_each = raised.one_each;
    between = λ p lt. omega (arith, search.between p lt, up p lt);
    within = λ p lt. let is = at p lt in is.within;
    frozen_in = λ p lt. omega (arith, search.frozen_in p lt, up p lt);
    looked = λ p k lt le less. looked p k lt le less (cases_lt k (get_or tops p 0));
    up = λ p k lt less high. reach p k lt less high (cases_lt k (get_or tops p 0));
    down = search.down;
    all = λ j p k low lt less past. all j p k low lt less past (cases_eq j done);
  }
    where
      at : (p : ℕ) → p < processes
          → IsRaised steps flow new (row_of rows p) (reached_at old done).step (get_or tops p 0) (get_or tops' p 0)
      at p lt = raised.raised p lt

      up : (p : ℕ) → p < processes → get_or tops p 0 ≤ get_or tops' p 0
      up p lt = (raised.raised p lt).up

      looked : (p k : ℕ) → p < processes → get_or lows p 0 ≤ k → k < get_or tops' p 0
          → (k < get_or tops p 0) ⊎ (get_or tops p 0 ≤ k) → IsLookedAt flow new (payer_at rows p k)
      looked p k lt le less (inl low) = still_looked flow old new (payer_at rows p k) on (search.looked p k lt le low)
      looked p k lt le less (inr high) = (raised.raised p lt).looked k high less

      reach : (p k : ℕ) → p < processes → k < get_or tops' p 0 → get_or frozen p 0 ≤ k
          → (k < get_or tops p 0) ⊎ (get_or tops p 0 ≤ k) → IsInReach steps new (payer_at rows p k)
      reach p k lt less high (inl low) = in_reach (payer_at rows p k) (search.up p k lt low high)
      reach p k lt less high (inr over) =
          let l : length old ≤ length new = on.longer in (
            done,
            omega (arith, there, l),
            subst (λ (r : Reached). IsPast steps (payer_at rows p k) r.step) (sym (on.same done there))
                ((raised.raised p lt).past k over less),
          )

      all : (j p k : ℕ) → j < done + 1 → p < processes → k < length (row_of rows p)
          → IsPast steps (payer_at rows p k) (reached_at new j).step → (j ≡ done) ⊎ (j ≢ done) → k < get_or tops' p 0
      all j p k low lt less past (inl same) =
          (raised.raised p lt).all k less
          (same_step done there (payer_at rows p k)
          (subst (λ (i : ℕ). IsPast steps (payer_at rows p k) (reached_at new i).step) same past))
      all j p k low lt less past (inr other) =
          let before : k < get_or tops p 0 =
          search.all j p k (omega (arith, low, other)) lt less
          (same_step j (omega (arith, low, other, there)) (payer_at rows p k) past) in
          omega (arith, before, up p lt)

  -- and at one payer before those that were looked at
  pub search_down : (q low : ℕ) → q < processes → get_or frozen q 0 ≤ low → get_or lows q 0 ≡ low + 1
      → AreLookedAt flow new (row_of rows q) low (low + 1) → done ≤ length old
      → IsSearch processes steps rows flow frozen e new (set lows q low) tops done
  search_down q low here high is now within = record {
    lows_each = length-set lows q low ∙ search.lows_each;
    tops_each = search.tops_each;
    between = λ p lt. omega (arith, search.between p lt, less p (cases_eq p q));
    within = search.within;
    frozen_in = search.frozen_in;
    looked = λ p k lt le under. looked p k lt le under (cases_lt k (get_or lows p 0)) (cases_eq p q);
    up = λ p k lt under over. in_reach (payer_at rows p k) (search.up p k lt under over);
    down = λ p k lt under over. search.down p k lt (omega (arith, under, less p (cases_eq p q))) over;
    all = λ j p k before lt under past.
        search.all j p k before lt under (same_step j (omega (arith, before, within)) (payer_at rows p k) past);
  }
    where
      put : get_or (set lows q low) q 0 ≡ low
      put = get_or-set_same lows q low 0 (omega (arith, here, search.lows_each))

      less : (p : ℕ) → (p ≡ q) ⊎ (p ≢ q) → get_or (set lows q low) p 0 ≤ get_or lows p 0
      less p (inl same) =
          subst (λ (n : ℕ). get_or (set lows q low) n 0 ≤ get_or lows n 0) (sym same) (omega (arith, put, is))
      less p (inr other) = omega (arith, get_or-set_other lows q p low 0 other)

      looked : (p k : ℕ) → p < processes → get_or (set lows q low) p 0 ≤ k → k < get_or tops p 0
          → (k < get_or lows p 0) ⊎ (get_or lows p 0 ≤ k) → (p ≡ q) ⊎ (p ≢ q) → IsLookedAt flow new (payer_at rows p k)
      looked p k lt le under (inr over) which =
          still_looked flow old new (payer_at rows p k) on (search.looked p k lt over under)
      looked p k lt le under (inl before) (inl same) =
          let a : get_or (set lows q low) p 0 ≡ low = ap (λ (n : ℕ). get_or (set lows q low) n 0) same ∙ put in
          let b : get_or lows p 0 ≡ low + 1 = ap (λ (n : ℕ). get_or lows n 0) same ∙ is in
          subst (λ (n : ℕ). IsLookedAt flow new (payer_at rows n k)) (sym same)
          (now k (omega (arith, a, le)) (omega (arith, b, before)))
      looked p k lt le under (inl before) (inr other) =
          absurd (omega (arith, get_or-set_other lows q p low 0 other, le, before))

-- where it begins
pub search_none : (processes : ℕ) (steps : List Step) (rows : List (Vec ℕ Global)) (flow : Flow) (frozen : List ℕ)
    (e : ℕ) (reached : List Reached) (tops : List ℕ) → AreTops processes steps rows frozen e tops
    → 0 < length reached → (reached_at reached 0).step ≡ e
    → IsSearch processes steps rows flow frozen e reached tops tops 1
search_none processes steps rows flow frozen e reached tops are some first = record {
  lows_each = are.one_each;
  tops_each = are.one_each;
  between = λ p lt. omega arith;
  within = are.within;
  frozen_in = are.frozen_in;
  looked = λ p k lt le less. absurd (omega (arith, le, less));
  up = λ p k lt less high.
      (0, some, subst (λ (s : ℕ). IsPast steps (payer_at rows p k) s) (sym first) (are.past p k lt less high));
  down = are.past;
  all = λ j p k low lt less past.
      are.all p k lt less
      (subst (λ (s : ℕ). IsPast steps (payer_at rows p k) s)
      (ap (λ (i : ℕ). (reached_at reached i).step) (zero_of j low) ∙ first) past);
}
  where
    zero_of : (j : ℕ) → j < 1 → j ≡ 0
    zero_of j low = omega (arith, low)

-- where it ends
pub search_all : (processes : ℕ) (steps : List Step) (rows : List (Vec ℕ Global)) (flow : Flow) (frozen : List ℕ)
    (e : ℕ) (reached : List Reached) (lows tops : List ℕ) (done : ℕ)
    → IsSearch processes steps rows flow frozen e reached lows tops done → length reached ≤ done
    → ((p : ℕ) → p < processes → get_or lows p 0 ≤ get_or frozen p 0)
    → IsEnded processes steps rows flow frozen reached tops
search_all processes steps rows flow frozen e reached lows tops done search high low = record {
  tops_each = search.tops_each;
  within = search.within;
  looked = λ p k lt le less. search.looked p k lt (omega (arith, low p lt, le)) less;
  up = search.up;
  all = λ j p k before lt less past. search.all j p k (omega (arith, before, high)) lt less past;
}

abbrev step_of : Reached → ℕ
step_of r = r.step

at_step : (reached : List Reached) (i : ℕ) → get_or (map step_of reached) i 0 ≡ (reached_at reached i).step
at_step [] i = refl
at_step (r ∷ reached) zero = refl
at_step (r ∷ reached) (suc i) = at_step reached i

-- each step is reached once at most
pub reached_few : (steps : List Step) (flow : Flow) (reached : List Reached) (places : List ℕ)
    → AreReached steps flow reached places → length reached ≤ length steps
reached_few steps flow reached places are =
    omega (
      arith,
      length-map reached step_of,
      at_most (map step_of reached) (length steps)
          (λ i lt.
          subst (λ (s : ℕ). s < length steps) (sym (at_step reached i))
          (are.there i (omega (arith, lt, length-map reached step_of))))
          (λ i j less lt same.
          let low : j < length reached = omega (arith, lt, length-map reached step_of) in
          let twice : i ≡ j =
          are_once steps flow reached places are i j (omega (arith, less, low)) low
          (sym (at_step reached i) ∙ (same ∙ at_step reached j)) in
          absurd (omega (arith, twice, less))),
    )
