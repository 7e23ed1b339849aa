-- The first tried cut: of the ends at all spots, and of the cuts on the way back.
use Rattle.std.proofs.Common.{◌≡◌, ℕ, ◌+◌, ◌<◌, ◌≤◌, inl, inr, ◌⊎◌, Bool, true, false, List, Option, Some, None, Contains, get_or, length, sym, ◌∙◌, subst, MatchOption, arith}
use Rattle.std.proofs.lemmas.Bool.{cases_lt}
use Rattle.std.proofs.lemmas.List.{get_or_default}
use Rattle.def_model.specs.Cuts.{IsConsistent}
use Rattle.def_model.specs.Events.{IsEvent, Place}
use Rattle.def_model.specs.Order.{HasNoCycle}
use Rattle.def_model.specs.Predicates.{Predicate, Recorded, test_of}
use Rattle.def_wide.specs.Tried.{IsEndOf, IsFirstTried, IsOnWayBack, IsTried, after, back, before}
use Rattle.wide_conjunctions.specs.CutOrder.{ComesBefore}
use Rattle.wide_gates.specs.Ends.{IsEnd, IsEndIn}
use Rattle.wide_gates.specs.Seen.{AfterBest, IsFirstSeen}
use Rattle.wide_gates.specs.Spots.{AreSpots, IsAt, IsBeside, event_of}
use Rattle.wide_gates.specs.declared.spot.Spot.{Spot}
use Rattle.wide_gates.proofs.EndCounts.{end_is_one, greatest_is_end, least_is_end}
use Rattle.wide_gates.proofs.SeenCuts.{order_cases, seen_as, seen_more}

module _ (r : Recorded) (predicate : Predicate) where
  -- ---- one spot

  -- the least and the greatest at a spot are all its ends
  pub ends_seen : HasNoCycle r.events → (spot : Spot) → IsEvent r.events (event_of spot) → (low high : List ℕ)
      → IsEnd false (IsAt r.events spot) low → IsEnd true (IsAt r.events spot) high
      → (best middle found : Option (List ℕ))
      → IsFirstSeen r predicate (AfterBest best (λ cut. cut ≡ low)) middle
      → IsFirstSeen r predicate (AfterBest middle (λ cut. cut ≡ high)) found
      → IsFirstSeen r predicate (AfterBest best (IsEndOf (IsAt r.events spot))) found
  ends_seen acyclic spot event low high is_low is_high best middle found first then =
      seen_as r predicate (λ cut. AfterBest best (λ other. other ≡ low) cut ⊎ (cut ≡ high))
      (AfterBest best (IsEndOf (IsAt r.events spot))) found to from
      (seen_more r predicate (AfterBest best (λ other. other ≡ low)) (λ cut. cut ≡ high) middle found first then)
    where
      to : (cut : List ℕ) → AfterBest best (λ other. other ≡ low) cut ⊎ (cut ≡ high)
          → AfterBest best (IsEndOf (IsAt r.events spot)) cut
      to cut (inl (inl e)) = inl e
      to cut (inl (inr same)) =
          inr (subst (IsEndOf (IsAt r.events spot)) (sym same) (least_is_end r.events acyclic spot event low is_low))
      to cut (inr same) =
          inr (subst (IsEndOf (IsAt r.events spot)) (sym same)
          (greatest_is_end r.events acyclic spot event high is_high))

      from : (cut : List ℕ) → AfterBest best (IsEndOf (IsAt r.events spot)) cut
          → AfterBest best (λ other. other ≡ low) cut ⊎ (cut ≡ high)
      from cut (inl e) = inl (inl e)
      from cut (inr end) = pick (end_is_one r.events acyclic spot event low high cut is_low is_high end)
        where
          pick : (cut ≡ low) ⊎ (cut ≡ high) → AfterBest best (λ other. other ≡ low) cut ⊎ (cut ≡ high)
          pick (inl same) = inl (inr same)
          pick (inr same) = inr same

  -- ---- all spots

  pub none_seen : (spots : List Spot) → IsFirstSeen r predicate (IsEndIn r.events spots 0) None
  none_seen spots = λ cut seen good. absurd (omega (arith, seen.1))

  pub spot_seen : (spots : List Spot) (k : ℕ) (d : Spot) → k < length spots → (best found : Option (List ℕ))
      → IsFirstSeen r predicate (IsEndIn r.events spots k) best
      → IsFirstSeen r predicate (AfterBest best (IsEndOf (IsAt r.events (get_or spots k d)))) found
      → IsFirstSeen r predicate (IsEndIn r.events spots (k + 1)) found
  spot_seen spots k d there best found first then =
      seen_as r predicate (λ cut. IsEndIn r.events spots k cut ⊎ IsEndOf (IsAt r.events (get_or spots k d)) cut)
      (IsEndIn r.events spots (k + 1)) found to from
      (seen_more r predicate (IsEndIn r.events spots k) (IsEndOf (IsAt r.events (get_or spots k d))) best found first
      then)
    where
      to : (cut : List ℕ) → IsEndIn r.events spots k cut ⊎ IsEndOf (IsAt r.events (get_or spots k d)) cut
          → IsEndIn r.events spots (k + 1) cut
      to cut (inl (j, lt, end)) = (j, omega (arith, lt), end)
      to cut (inr end) = (
        k,
        omega arith,
        λ other. subst (λ (s : Spot). IsEndOf (IsAt r.events s) cut) (get_or_default spots k d other there) end,
      )

      from : (cut : List ℕ) → IsEndIn r.events spots (k + 1) cut
          → IsEndIn r.events spots k cut ⊎ IsEndOf (IsAt r.events (get_or spots k d)) cut
      from cut (j, lt, end) = pick (cases_lt j k)
        where
          pick : (j < k) ⊎ (k ≤ j) → IsEndIn r.events spots k cut ⊎ IsEndOf (IsAt r.events (get_or spots k d)) cut
          pick (inl less) = inl (j, less, end)
          pick (inr le) =
              let same : j ≡ k = omega (arith, lt, le) in
              inr (subst (λ (i : ℕ). IsEndOf (IsAt r.events (get_or spots i d)) cut) same (end d))

  -- ---- tried cuts

  module _ (spots : List Spot) (are : AreSpots r.events spots) where
    -- ends at a spot are tried
    end_tried : (b : Bool) (e : Place) → IsEvent r.events e → (cut : List ℕ)
        → IsEndOf (IsBeside b r.events e) cut → IsTried r.events cut
    end_tried true e event cut end = after e event end
    end_tried false e event cut end = before e event end

    -- where the spots have an end of an event
    found_end : (b : Bool) (e : Place) → IsEvent r.events e → (cut : List ℕ) → IsEndOf (IsBeside b r.events e) cut
        → IsEndIn r.events spots (length spots) cut
    found_end b e event cut end = of (are.all (record { process = e.process; number = e.number }) b event)
      where
        spot : Spot
        spot = record { place = record { process = e.process; number = e.number }; after = b }

        of : Contains spots spot → IsEndIn r.events spots (length spots) cut
        of (j, lt, is) = (
          j,
          lt,
          λ d. subst (λ (s : Spot). IsEndOf (IsAt r.events s) cut) (sym is ∙ get_or_default spots j spot d lt) end,
        )

    pub tried_seen : (best found : Option (List ℕ))
        → IsFirstSeen r predicate (IsEndIn r.events spots (length spots)) best
        → IsFirstSeen r predicate (AfterBest best (IsOnWayBack r.events)) found
        → MatchOption found ((cut : List ℕ) → ¬ IsFirstTried r.events (test_of r predicate) cut)
        (IsFirstTried r.events (test_of r predicate))
    tried_seen best found first then =
        result found
        (seen_as r predicate (λ cut. IsEndIn r.events spots (length spots) cut ⊎ IsOnWayBack r.events cut)
        (IsTried r.events) found to from
        (seen_more r predicate (IsEndIn r.events spots (length spots)) (IsOnWayBack r.events) best found first then))
      where
        no_spot : Spot
        no_spot = record { place = record { process = 0; number = 0 }; after = false }

        to : (cut : List ℕ) → IsEndIn r.events spots (length spots) cut ⊎ IsOnWayBack r.events cut
            → IsTried r.events cut
        to cut (inr way) = back way
        to cut (inl (j, lt, end)) =
            end_tried (get_or spots j no_spot).after (event_of (get_or spots j no_spot)) (are.there j no_spot lt) cut
            (end no_spot)

        from : (cut : List ℕ) → IsTried r.events cut
            → IsEndIn r.events spots (length spots) cut ⊎ IsOnWayBack r.events cut
        from cut (before e event end) = inl (found_end false e event cut end)
        from cut (after e event end) = inl (found_end true e event cut end)
        from cut (back way) = inr way

        result : (found : Option (List ℕ)) → IsFirstSeen r predicate (IsTried r.events) found
            → MatchOption found ((cut : List ℕ) → ¬ IsFirstTried r.events (test_of r predicate) cut)
            (IsFirstTried r.events (test_of r predicate))
        result None none = λ cut is. none cut is.tried (is.consistent, is.satisfies)
        result (Some cut) is = record {
          tried = is.0;
          consistent = is.1.0;
          satisfies = is.1.1;
          first = λ other has ok passes apart. first_of other has ok passes apart
              (order_cases cut other (is.1.0.fits.one_each ∙ sym ok.fits.one_each));
        }
          where
            first_of : (other : List ℕ) → IsTried r.events other → IsConsistent r.events other
                → test_of r predicate other ≡ true → ¬ (other ≡ cut)
                → ComesBefore cut other ⊎ ((cut ≡ other) ⊎ ComesBefore other cut) → ComesBefore cut other
            first_of other has ok passes apart (inl less) = less
            first_of other has ok passes apart (inr (inl same)) = absurd (apart (sym same))
            first_of other has ok passes apart (inr (inr more)) = absurd (is.2 other has (ok, passes) more)
