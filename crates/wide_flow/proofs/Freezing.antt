-- What a search without a payer has reached is frozen.
use Rattle.std.proofs.Common.{◌≡◌, ◌≢◌, ℕ, zero, suc, ◌+◌, ◌<◌, ◌≤◌, Bool, true, false, ◌||◌, leb, IsTrue, List, [], ◌∷◌, length, get_or, refl, sym, ap, ◌∙◌, subst, ◌⊎◌, inl, inr, arith}
use Rattle.std.specs.Global.{Global}
use Rattle.std.specs.Prelude.{Vec}
use Rattle.std.proofs.lemmas.Bool.{cases_eq, cases_lt, false≢true, false_from_ne_true, le-leb, leb-true, or_cases, or_left, or_right}
use Rattle.wide_flow.specs.declared.step.Step.{Step}
use Rattle.wide_flow.specs.declared.takes.Flow.{Flow}
use Rattle.wide_flow.specs.declared.reach.Reached.{Reached}
use Rattle.wide_flow.specs.Closed.{IsClosed}
use Rattle.wide_flow.specs.Steps.{AreSteps, IsNegative, IsPast, is_negative, step_at}
use Rattle.wide_flow.specs.Flows.{AreBelow, CanTake, IsFlow, IsFrozen, IsTakenInside, take_at}
use Rattle.wide_flow.specs.Rows.{AreRows, IsRow, row_of}
use Rattle.wide_flow.specs.Searches.{AreMembers, AreReached, HasReached, IsEnded, IsInReach, IsLookedAt, IsReachedFrom, payer_at, reached_at}
use Rattle.wide_flow.specs.Parts.{IsPart}

-- whether a step is in the past of one that was reached
is_past : List Step → ℕ → ℕ → Bool
is_past steps f e = leb (step_at steps f).count (get_or (step_at steps e).past.now (step_at steps f).process 0)

is_in_reach : List Step → List Reached → ℕ → Bool
is_in_reach steps [] f = false
is_in_reach steps (r ∷ reached) f = is_past steps f r.step || is_in_reach steps reached f

past_from : (steps : List Step) (f e : ℕ) → IsPast steps f e → is_past steps f e ≡ true
unfolding is_past
past_from steps f e past =
    le-leb (step_at steps f).count (get_or (step_at steps e).past.now (step_at steps f).process 0) past

past_to : (steps : List Step) (f e : ℕ) → is_past steps f e ≡ true → IsPast steps f e
unfolding is_past
past_to steps f e is =
    leb-true (step_at steps f).count (get_or (step_at steps e).past.now (step_at steps f).process 0) is

reach_from : (steps : List Step) (reached : List Reached) (f j : ℕ) → j < length reached
    → IsPast steps f (reached_at reached j).step → is_in_reach steps reached f ≡ true
unfolding is_in_reach
reach_from steps [] f j lt past = absurd (omega (arith, lt))
reach_from steps (r ∷ reached) f zero lt past =
    or_left (is_past steps f r.step) (is_in_reach steps reached f) (past_from steps f r.step past)
reach_from steps (r ∷ reached) f (suc j) lt past =
    or_right (is_past steps f r.step) (is_in_reach steps reached f)
    (reach_from steps reached f j (omega (arith, lt)) past)

later : (steps : List Step) (r : Reached) (reached : List Reached) (f : ℕ) → IsInReach steps reached f
    → IsInReach steps (r ∷ reached) f
later steps r reached f (j, lt, past) = (suc j, omega (arith, lt), past)

reach_to : (steps : List Step) (reached : List Reached) (f : ℕ) → is_in_reach steps reached f ≡ true
    → IsInReach steps reached f
unfolding is_in_reach
reach_to steps [] f is = absurd (false≢true is)
reach_to steps (r ∷ reached) f is =
    elim (or_cases (is_past steps f r.step) (is_in_reach steps reached f) is) [
      | inl here ↦ (0, omega arith, past_to steps f r.step here)
      | inr there ↦ later steps r reached f (reach_to steps reached f there)
    ]

-- each step that was reached is among the first ones
pub steps_low : (steps : List Step) (flow : Flow) (n : ℕ) (reached : List Reached) (places : List ℕ)
    → AreReached steps flow reached places → (reached_at reached 0).step ≡ n → AreBelow (n + 1) flow.takes.items
    → (j : ℕ) → j < length reached
    → (reached_at reached j).step < n + 1
steps_low steps flow n reached places reach first below j lt = go (cases_eq j 0)
  where
    go : (j ≡ 0) ⊎ (j ≢ 0) → (reached_at reached j).step < n + 1
    go (inl same) =
        let e : (reached_at reached j).step ≡ n = ap (λ (i : ℕ). (reached_at reached i).step) same ∙ first in
        omega (arith, e)
    go (inr other) =
        let is : IsReachedFrom steps flow.takes.items reached j = reach.later j (omega (arith, other)) lt in
        subst (λ (s : ℕ). s < n + 1) is.own (below (reached_at reached j).by is.there)

module _ (processes : ℕ) (steps : List Step) (rows : List (Vec ℕ Global)) (flow : Flow) (frozen : List ℕ) (n : ℕ)
    (all : AreSteps processes steps) (are : AreRows processes steps rows)
    (part : IsPart processes steps rows flow frozen n (n + 1)) where
  -- the part with the next step, if that lacks nothing
  pub part_next : get_or flow.left.items n 0 ≡ 0 → IsPart processes steps rows flow frozen (n + 1) (n + 1)
  part_next none =
      let old : IsFrozen steps flow n part.set = part.is_frozen in
      record {
        flow_is = part.flow_is;
        frozen_each = part.frozen_each;
        frozen_in = part.frozen_in;
        below = part.below;
        set = part.set;
        members = part.members;
        is_frozen = record {
          closed = old.closed;
          full = old.full;
          inside = old.inside;
          all_left = λ e lt positive some. left e lt positive some (cases_eq e n);
          keys = λ e lt is. up (step_at steps e).key (old.keys e lt is);
        };
      }
    where
      left : (e : ℕ) → e < n + 1 → is_negative steps e ≡ false → 0 < get_or flow.left.items e 0 → (e ≡ n) ⊎ (e ≢ n)
          → IsTrue (part.set e)
      left e lt positive some (inl same) =
          absurd (omega (arith, some, ap (λ (i : ℕ). get_or flow.left.items i 0) same, none))
      left e lt positive some (inr other) = part.is_frozen.all_left e (omega (arith, lt, other)) positive some

      up : (key : ℕ) → ((i : ℕ) × (i < n) × (key ≤ (step_at steps i).key))
          → (i : ℕ) × (i < n + 1) × (key ≤ (step_at steps i).key)
      up key (i, lt, le) = (i, omega (arith, lt), le)

  -- the part after a payment to the next step
  pub part_paid : (flow' : Flow) (payer : ℕ) → IsFlow steps flow' 0 0
      → ((s : ℕ) → get_or flow'.left.items s 0 ≤ get_or flow.left.items s 0)
      → ((s : ℕ) → s ≢ n → is_negative steps s ≡ false → get_or flow'.left.items s 0 ≡ get_or flow.left.items s 0)
      → AreBelow (n + 1) flow'.takes.items
      → ((set : ℕ → Bool) → IsClosed steps set → IsTakenInside set flow.takes.items → set payer ≡ false
      → IsTakenInside set flow'.takes.items)
      → payer < length steps → IsNegative steps payer → 0 < get_or flow.left.items payer 0
      → IsPart processes steps rows flow' frozen n (n + 1)
  part_paid flow' payer is none_more same below inside there negative some =
      let old : IsFrozen steps flow n part.set = part.is_frozen in
      record {
        flow_is = is;
        frozen_each = part.frozen_each;
        frozen_in = part.frozen_in;
        below = below;
        set = part.set;
        members = part.members;
        is_frozen = record {
          closed = old.closed;
          full = λ f lt member negative. omega (arith, none_more f, old.full f lt member negative);
          inside = inside part.set old.closed old.inside (false_from_ne_true (part.set payer) outside);
          all_left = λ e lt positive has.
              old.all_left e lt positive (omega (arith, has, same e (λ k. absurd (omega (arith, lt, k))) positive));
          keys = old.keys;
        };
      }
    where
      outside : part.set payer ≡ true → ⊥
      outside member = absurd (omega (arith, some, part.is_frozen.full payer there member negative))

  module _ (reached : List Reached) (places tops : List ℕ)
      (ended : IsEnded processes steps rows flow frozen reached tops)
      (reach : AreReached steps flow reached places) (first : (reached_at reached 0).step ≡ n) where
    grown : ℕ → Bool
    grown f = part.set f || is_in_reach steps reached f

    reached_in : (s : ℕ) → HasReached reached s → IsTrue (grown s)
    unfolding grown
    reached_in s (j, lt, is) =
        or_right (part.set s) (is_in_reach steps reached s)
        (reach_from steps reached s j lt
        (subst (λ (f : ℕ). IsPast steps f (reached_at reached j).step) is
        (all.own (reached_at reached j).step (reach.there j lt))))

    closed : IsClosed steps grown
    unfolding grown
    closed f e lt less past is = go (or_cases (part.set e) (is_in_reach steps reached e) is)
      where
        more : IsInReach steps reached e → IsInReach steps reached f
        more (j, low, inside) =
            let within : (step_at steps f).process < processes = all.there f lt in
            let le : get_or (step_at steps e).past.now (step_at steps f).process 0
            ≤ get_or (step_at steps (reached_at reached j).step).past.now (step_at steps f).process 0 =
            all.transitive e (reached_at reached j).step (step_at steps f).process less (reach.there j low)
            within inside in
            (j, low, omega (arith, past, le))

        found : IsInReach steps reached f → IsTrue (part.set f || is_in_reach steps reached f)
        found (j, low, inside) =
            or_right (part.set f) (is_in_reach steps reached f) (reach_from steps reached f j low inside)

        go : (part.set e ≡ true) ⊎ (is_in_reach steps reached e ≡ true)
            → IsTrue (part.set f || is_in_reach steps reached f)
        go (inl old) =
            or_left (part.set f) (is_in_reach steps reached f) (part.is_frozen.closed f e lt less past old)
        go (inr new) = found (more (reach_to steps reached e new))

    -- a negative member was one before, or was looked at
    which : (f : ℕ) → f < length steps → IsNegative steps f → IsTrue (grown f)
        → (part.set f ≡ true) ⊎ IsLookedAt flow reached f
    unfolding grown
    which f lt negative is = go (or_cases (part.set f) (is_in_reach steps reached f) is)
      where
        p : ℕ
        p = (step_at steps f).process

        payer : (k : ℕ) → k < get_or tops p 0 → payer_at rows p k ≡ f
            → (k < get_or frozen p 0) ⊎ (get_or frozen p 0 ≤ k)
            → (part.set f ≡ true) ⊎ IsLookedAt flow reached f
        payer k low same (inl before) =
            inl (subst (λ (s : ℕ). part.set s ≡ true) same (part.members p k (all.there f lt) before))
        payer k low same (inr after) =
            inr (subst (λ (s : ℕ). IsLookedAt flow reached s) same (ended.looked p k (all.there f lt) after low))

        place : ((k : ℕ) × (k < length (row_of rows p)) × (payer_at rows p k ≡ f)) → IsInReach steps reached f
            → (part.set f ≡ true) ⊎ IsLookedAt flow reached f
        place (k, low, same) (j, less, past) =
            payer k
            (ended.all j p k less (all.there f lt) low
            (subst (λ (s : ℕ). IsPast steps s (reached_at reached j).step) (sym same) past))
            same (cases_lt k (get_or frozen p 0))

        go : (part.set f ≡ true) ⊎ (is_in_reach steps reached f ≡ true)
            → (part.set f ≡ true) ⊎ IsLookedAt flow reached f
        go (inl old) = inl old
        go (inr new) =
            let row : IsRow steps p (row_of rows p) = are.each p (all.there f lt) in
            place (row.all f lt (record { there = lt; own = refl; negative = negative })) (reach_to steps reached f new)

    keys : (e : ℕ) → e < length steps → IsTrue (grown e)
        → (i : ℕ) × (i < n + 1) × ((step_at steps e).key ≤ (step_at steps i).key)
    unfolding grown
    keys e lt is = go (or_cases (part.set e) (is_in_reach steps reached e) is)
      where
        old : ((i : ℕ) × (i < n) × ((step_at steps e).key ≤ (step_at steps i).key))
            → (i : ℕ) × (i < n + 1) × ((step_at steps e).key ≤ (step_at steps i).key)
        old (i, low, le) = (i, omega (arith, low), le)

        new : IsInReach steps reached e → (i : ℕ) × (i < n + 1) × ((step_at steps e).key ≤ (step_at steps i).key)
        new (j, low, past) = (
          (reached_at reached j).step,
          steps_low steps flow n reached places reach first part.below j low,
          all.monotone e (reached_at reached j).step lt (reach.there j low) past,
        )

        go : (part.set e ≡ true) ⊎ (is_in_reach steps reached e ≡ true)
            → (i : ℕ) × (i < n + 1) × ((step_at steps e).key ≤ (step_at steps i).key)
        go (inl was) = old (part.is_frozen.keys e lt was)
        go (inr is) = new (reach_to steps reached e is)

    pub part_frozen : IsPart processes steps rows flow tops (n + 1) (n + 1)
    unfolding grown
    part_frozen = record {
      flow_is = part.flow_is;
      frozen_each = ended.tops_each;
      frozen_in = ended.within;
      below = part.below;
      set = grown;
      members = members;
      is_frozen = record {
        closed = closed;
        full = full;
        inside = inside;
        all_left = all_left;
        keys = keys;
      };
    }
      where
        full : (f : ℕ) → f < length steps → IsTrue (grown f) → IsNegative steps f → get_or flow.left.items f 0 ≡ 0
        full f lt is negative =
            elim (which f lt negative is) [
              | inl old ↦ part.is_frozen.full f lt old negative
              | inr looked ↦ looked.full
            ]

        inside : (i : ℕ) → i < length flow.takes.items → IsTrue (grown (take_at flow.takes.items i).payer)
            → IsTrue (grown (take_at flow.takes.items i).taker)
        inside i lt is =
            let flow_is : IsFlow steps flow 0 0 = part.flow_is in
            let can : CanTake steps (take_at flow.takes.items i).taker (take_at flow.takes.items i).payer =
            flow_is.takes.each i lt in
            elim (which (take_at flow.takes.items i).payer can.payer_there can.negative is) [
              | inl old ↦
                  or_left (part.set (take_at flow.takes.items i).taker)
                  (is_in_reach steps reached (take_at flow.takes.items i).taker) (part.is_frozen.inside i lt old)
              | inr looked ↦ reached_in (take_at flow.takes.items i).taker (looked.takers i lt refl)
            ]

        all_left : (e : ℕ) → e < n + 1 → is_negative steps e ≡ false → 0 < get_or flow.left.items e 0
            → IsTrue (grown e)
        all_left e lt positive some =
            elim (cases_eq e n) [
              | inl same ↦ reached_in e (0, reach.some, first ∙ sym same)
              | inr other ↦
                  or_left (part.set e) (is_in_reach steps reached e)
                  (part.is_frozen.all_left e (omega (arith, lt, other)) positive some)
            ]

        members : AreMembers processes rows tops grown
        members p k lt low =
            elim (cases_lt k (get_or frozen p 0)) [
              | inl before ↦
                  or_left (part.set (payer_at rows p k)) (is_in_reach steps reached (payer_at rows p k))
                  (part.members p k lt before)
              | inr after ↦ found p k (ended.up p k lt low after)
            ]
          where
            found : (p k : ℕ) → IsInReach steps reached (payer_at rows p k) → IsTrue (grown (payer_at rows p k))
            found p k (j, less, past) =
                or_right (part.set (payer_at rows p k)) (is_in_reach steps reached (payer_at rows p k))
                (reach_from steps reached (payer_at rows p k) j less past)

-- the first takes are of the first steps
pub part_begun : (processes : ℕ) (steps : List Step) (rows : List (Vec ℕ Global)) (flow : Flow) (frozen : List ℕ)
    (n : ℕ) → IsPart processes steps rows flow frozen n n → IsPart processes steps rows flow frozen n (n + 1)
part_begun processes steps rows flow frozen n part = record {
  flow_is = part.flow_is;
  frozen_each = part.frozen_each;
  frozen_in = part.frozen_in;
  below = λ i lt. let low : (take_at flow.takes.items i).taker < n = part.below i lt in omega (arith, low);
  set = part.set;
  members = part.members;
  is_frozen = part.is_frozen;
}
