-- The least and the greatest counts right before or right after an event.
use Rattle.std.proofs.Common.{◌≡◌, ℕ, ◌+◌, ◌<◌, ◌≤◌, inl, inr, ◌⊎◌, Bool, true, false, List, [], ◌∷◌, ◌++◌, length, get_or, replicate, sym, ap, ◌∙◌, subst, arith}
use Rattle.std.proofs.lemmas.Bool.{cases_lt}
use Rattle.std.proofs.lemmas.List.{get_or_append_left, get_or_past, get_or_push, get_or-replicate, length-replicate, length_push}
use Rattle.def_model.specs.Events.{Computation, IsEvent, Place, event_count}
use Rattle.def_model.specs.Lattice.{IsWithin}
use Rattle.def_model.specs.Order.{HasNoCycle}
use Rattle.def_model.proofs.Counts.{same_from_sum, sum_le}
use Rattle.def_wide.specs.Tried.{IsEndOf}
use Rattle.def_wide.specs.Tried as tried
use Rattle.wide_gates.specs.Ends.{AreBelowHighs, AreHighs, HasBound, HaveBounds, IsEnd, bound_of}
use Rattle.wide_gates.specs.Ranges.{IsRange}
use Rattle.wide_gates.specs.Spots.{CanHave, IsAt, IsBeside, event_of, own_count, own_number}
use Rattle.wide_gates.specs.declared.range.Range.{Range}
use Rattle.wide_gates.specs.declared.spot.Spot.{Spot}
use Rattle.wide_gates.proofs.Beside.{apart, around, none_of_none, together}

-- one process more
pub bounds_more : (c : Computation) (spot : Spot) (greatest : Bool) (q count : ℕ) (counts new : List ℕ)
    → HaveBounds c spot greatest q counts → HasBound c spot greatest q count → new ≡ counts ++ count ∷ []
    → HaveBounds c spot greatest (q + 1) new
bounds_more c spot greatest q count counts new have is made =
    subst (HaveBounds c spot greatest (q + 1)) (sym made) (record {
      many = length_push counts count ∙ ap (λ n. n + 1) have.many;
      each = λ p lt. go p (cases_lt p q) lt;
    })
  where
    go : (p : ℕ) → (p < q) ⊎ (q ≤ p) → p < q + 1 → HasBound c spot greatest p (get_or (counts ++ count ∷ []) p 0)
    go p (inl less) lt =
        let same : get_or (counts ++ count ∷ []) p 0 ≡ get_or counts p 0 =
        get_or_append_left counts (count ∷ []) 0 p (omega (arith, have.many, less)) in
        subst (HasBound c spot greatest p) (sym same) (have.each p less)
    go p (inr le) lt =
        let here : p ≡ q = omega arith in
        let same : get_or (counts ++ count ∷ []) p 0 ≡ count = get_or_push counts count 0 p (have.many ∙ sym here) in
        subst (HasBound c spot greatest p) (sym same)
        (subst (λ (n : ℕ). HasBound c spot greatest n count) (sym here) is)

own_le : (after : Bool) (n : ℕ) → own_number after n ≤ n
own_le true n = omega arith
own_le false n = omega arith

-- of the event's own process
pub own_bound : (c : Computation) (spot : Spot) (greatest : Bool) (q count : ℕ) → IsEvent c (event_of spot)
    → q ≡ spot.place.process → count ≡ own_count spot → HasBound c spot greatest q count
own_bound c spot greatest q count event same is = (range, is_range, bound greatest)
  where
    range : Range
    range = record { low = own_count spot; high = own_count spot }

    within : own_count spot ≤ event_count c q
    within =
        let le : own_count spot ≤ spot.place.number = own_le spot.after spot.place.number in
        let of : event_count c q ≡ event_count c spot.place.process = ap (event_count c) same in
        omega (arith, event.1)

    is_range : IsRange c spot q range
    is_range = record {
      ordered = omega arith;
      within = within;
      each = λ n. (λ between. inl (same, omega (arith, between.0, between.1)), from n);
    }
      where
        from : (n : ℕ) → CanHave c spot q n → (own_count spot ≤ n) × (n ≤ own_count spot)
        from n (inl (at, own)) = (omega (arith, own), omega (arith, own))
        from n (inr (other, between)) = absurd (other same)

    bound : (b : Bool) → count ≡ bound_of b range
    bound true = is
    bound false = is

module _ (c : Computation) (acyclic : HasNoCycle c) (spot : Spot) (event : IsEvent c (event_of spot)) where
  -- counts at the spot are as many as processes
  one_each : (after : Bool) (counts : List ℕ) → IsBeside after c (event_of spot) counts → length counts ≡ length c
  one_each after counts at = (around c after (event_of spot) counts at).fits.one_each

  -- each count of a range is one that the process may have
  in_range : (greatest : Bool) (p : ℕ) (range : Range) → IsRange c spot p range → (range.low ≤ bound_of greatest range)
      × (bound_of greatest range ≤ range.high)
  in_range true p range is = (is.ordered, omega arith)
  in_range false p range is = (omega arith, is.ordered)

  module _ (n : ℕ) (all : n ≡ length c) (greatest : Bool) (counts : List ℕ) (have : HaveBounds c spot greatest n counts)
    where
      many : length counts ≡ length c
      many = have.many ∙ all

      inside : IsAt c spot counts
      inside = together c acyclic spot counts event many (λ q lt. go q lt (have.each q (omega (arith, all, lt))))
        where
          go : (q : ℕ) → q < length c → HasBound c spot greatest q (get_or counts q 0)
              → CanHave c spot q (get_or counts q 0)
          go q lt (range, is, same) =
              subst (CanHave c spot q) (sym same) ((is.each (bound_of greatest range)).0
              (in_range greatest q range is))

  -- the bounds of all processes make the least counts, or the greatest
  pub bounds_end : (n : ℕ) → n ≡ length c → (greatest : Bool) (counts : List ℕ) → HaveBounds c spot greatest n counts
      → IsEnd greatest (IsAt c spot) counts
  bounds_end n all true counts have = (inside n all true counts have, λ other at p. go other at p (cases_lt p n))
    where
      go : (other : List ℕ) → IsAt c spot other → (p : ℕ) → (p < n) ⊎ (n ≤ p) → get_or other p 0 ≤ get_or counts p 0
      go other at p (inr le) =
          let past : get_or other p 0 ≡ 0 = get_or_past other p 0 (omega (arith, one_each spot.after other at, all, le))
          in omega arith
      go other at p (inl lt) =
          let of = have.each p lt in
          let up = ((of.1.each (get_or other p 0)).1 (apart c acyclic spot other event at p)).1 in
          omega (arith, up, of.2)
  bounds_end n all false counts have = (inside n all false counts have, λ other at p. go other at p (cases_lt p n))
    where
      go : (other : List ℕ) → IsAt c spot other → (p : ℕ) → (p < n) ⊎ (n ≤ p) → get_or counts p 0 ≤ get_or other p 0
      go other at p (inr le) =
          let past : get_or counts p 0 ≡ 0 = get_or_past counts p 0 (omega (arith, have.many, le)) in omega arith
      go other at p (inl lt) =
          let of = have.each p lt in
          let down = ((of.1.each (get_or other p 0)).1 (apart c acyclic spot other event at p)).0 in
          omega (arith, down, of.2)

  -- counts within each other are the same
  same_counts : (a b : List ℕ) → IsAt c spot a → IsAt c spot b → IsWithin a b → IsWithin b a → a ≡ b
  same_counts a b at at' up down =
      let l : length a ≡ length b = one_each spot.after a at ∙ sym (one_each spot.after b at') in
      same_from_sum a b l up (let s = sum_le a b up l in let t = sum_le b a down (sym l) in omega arith)

  -- the least and the greatest are its ends, and it has no others
  pub least_is_end : (cut : List ℕ) → IsEnd false (IsAt c spot) cut → IsEndOf (IsAt c spot) cut
  least_is_end cut is = tried.least is.0 is.1

  pub greatest_is_end : (cut : List ℕ) → IsEnd true (IsAt c spot) cut → IsEndOf (IsAt c spot) cut
  greatest_is_end cut is = tried.greatest is.0 is.1

  pub end_is_one : (low high cut : List ℕ) → IsEnd false (IsAt c spot) low → IsEnd true (IsAt c spot) high
      → IsEndOf (IsAt c spot) cut → (cut ≡ low) ⊎ (cut ≡ high)
  end_is_one low high cut is_low is_high (tried.least at under) =
      inl (same_counts cut low at is_low.0 (under low is_low.0) (is_low.1 cut at))
  end_is_one low high cut is_low is_high (tried.greatest at over) =
      inr (same_counts cut high at is_high.0 (is_high.1 cut at) (over high is_high.0))

-- ---- how many events come before what the event happened before

pub below_highs : (c : Computation) (e : Place) (highs : List ℕ) → AreHighs c e highs → AreBelowHighs c e highs
below_highs c e highs are =
    record { one_each = are.one_each; each = λ q lt. (are.each q lt).none_before }

pub zeros_below : (c : Computation) (e : Place) (highs : List ℕ) (n : ℕ) → n ≡ length c → highs ≡ replicate n 0
    → AreBelowHighs c e highs
zeros_below c e highs n all is = subst (AreBelowHighs c e) (sym is) (record {
  one_each = length-replicate n 0 ∙ all;
  each = λ q lt. none_of_none c e q (get_or (replicate n 0) q 0) (get_or-replicate n q 0 0 (omega (arith, all, lt)));
})
