-- Counts right before and right after an event: each process by itself.
use Rattle.std.proofs.Common.{◌≡◌, ◌≢◌, inl, inr, ◌⊎◌, ℕ, ◌+◌, ◌-◌, ◌<◌, ◌≤◌, Bool, true, false, List, [], ◌∷◌, ◌++◌, Contains, length, get_or, refl, sym, ap, ◌∙◌, subst, arith}
use Rattle.std.proofs.lemmas.Bool.{cases_eq, cases_lt, cases_order}
use Rattle.std.proofs.lemmas.List.{get_or_past, length_push}
use Rattle.std.proofs.lemmas.List.Elements.{Contains-append_left, Contains-push}
use Rattle.def_model.specs.Events.{Computation, Place, place, IsEvent, event_count}
use Rattle.def_model.specs.Order.{HappenedBefore, HasNoCycle, IsClock, IsUpTo}
use Rattle.def_model.specs.Cuts.{Includes}
use Rattle.def_model.proofs.Chains.{events_of_happens, happens_from_earlier, happens_transitive, same_place, step_happens}
use Rattle.def_wide.specs.Gates.{IsAround}
use Rattle.pd_match.specs.Views.{place_view}
use Rattle.pd_match.specs.declared.place.Place as places
use Rattle.wide_gates.proofs.Pushes.{each_push}
use Rattle.wide_gates.specs.Highs.{HasNoneAfter, IsHigh}
use Rattle.wide_gates.specs.Ranges.{IsRange}
use Rattle.wide_gates.specs.Spots.{AreSpots, AreThere, CanHave, HaveSpots, IsAt, IsBeside, IsBetween, event_of, own_count, own_number}
use Rattle.wide_gates.specs.declared.spot.Spot.{Spot}

-- ---- what an event happened before, of one process

pub none_more : (c : Computation) (e : Place) (q n : ℕ) → HasNoneAfter c e q n → n < event_count c q
    → ¬ HappenedBefore c e (place q (n + 1)) → HasNoneAfter c e q (n + 1)
none_more c e q n none there not_next = record {
  within = omega (arith, there);
  none = λ m one up. go m one (cases_lt m (n + 1)) up;
}
  where
    go : (m : ℕ) → 1 ≤ m → (m < n + 1) ⊎ (n + 1 ≤ m) → m ≤ n + 1 → ¬ HappenedBefore c e (place q m)
    go m one (inl lt) up = none.none m one (omega (arith, lt))
    go m one (inr le) up = λ before. let same : m ≡ n + 1 = omega (arith, le, up) in
        not_next (subst (λ (k : ℕ). HappenedBefore c e (place q k)) same before)

pub none_of_none : (c : Computation) (e : Place) (q n : ℕ) → n ≡ 0 → HasNoneAfter c e q n
none_of_none c e q n zero = record {
  within = omega (arith, zero);
  none = λ m one up. absurd (omega (arith, zero, one, up));
}

pub high_here : (c : Computation) (e : Place) (q n : ℕ) → HasNoneAfter c e q n
    → HappenedBefore c e (place q (n + 1)) → IsHigh c e q n
high_here c e q n none next = record { none_before = none; next = λ lt. next }

pub high_all : (c : Computation) (e : Place) (q n : ℕ) → HasNoneAfter c e q n → event_count c q ≤ n → IsHigh c e q n
high_all c e q n none all = record { none_before = none; next = λ lt. absurd (omega (arith, lt, all)) }

-- a later event of the process happened before no more
pub none_later : (c : Computation) (last e : Place) (q n : ℕ) → IsEvent c last → last.process ≡ e.process
    → last.number ≤ e.number → HasNoneAfter c last q n → HasNoneAfter c e q n
none_later c last e q n event same up none = record {
  within = none.within;
  none = λ m one le before.
      none.none m one le
      (subst (λ (f : Place). HappenedBefore c f (place q m))
      (same_place (place e.process last.number) last (sym same) refl)
      (happens_from_earlier c e (place q m) last.number before up
      (subst (λ (f : Place). IsEvent c f) (sym (same_place (place e.process last.number) last (sym same) refl))
      event)));
}

-- the process of an event is there
pub place_inside : (c : Computation) (f : Place) → IsEvent c f → f.process < length c
place_inside c f is = pick (cases_lt f.process (length c))
  where
    pick : (f.process < length c) ⊎ (length c ≤ f.process) → f.process < length c
    pick (inl lt) = lt
    pick (inr le) =
        let none : event_count c f.process ≡ 0 = ap length (get_or_past c f.process [] le) in
        absurd (omega (arith, none, is.0, is.1))

-- ---- counts right before and right after an event

-- counts that are beside an event are around it
pub around : (c : Computation) (after : Bool) (e : Place) (counts : List ℕ) → IsBeside after c e counts
    → IsAround c e counts
around c true e counts at = at.0
around c false e counts at = at.0

module _ (c : Computation) (acyclic : HasNoCycle c) where
  -- of one process what comes before is of lesser number
  before_less : (e f : Place) → e.process ≡ f.process → HappenedBefore c e f → e.number < f.number
  before_less e f same before = go (cases_order e.number f.number)
    where
      go : (e.number ≡ f.number) ⊎ ((e.number < f.number) ⊎ (f.number < e.number)) → e.number < f.number
      go (inr (inl lt)) = lt
      go (inl eq) =
          absurd (acyclic e (subst (λ (g : Place). HappenedBefore c e g) (sym (same_place e f same eq)) before))
      go (inr (inr more)) =
          let are = events_of_happens c e f before in
          absurd (acyclic e (happens_transitive c e f e before (step_happens c f e
          (inl (are.1, are.0, sym same, more)))))

  own_low : (after : Bool) (n : ℕ) → n - 1 ≤ own_number after n
  own_low true n = omega arith
  own_low false n = omega arith

  own_high : (after : Bool) (n : ℕ) → own_number after n ≤ n
  own_high true n = omega arith
  own_high false n = omega arith

  own_is : (after : Bool) (e : Place) (counts : List ℕ) → IsEvent c e → IsBeside after c e counts
      → get_or counts e.process 0 ≡ own_number after e.number
  own_is true e counts event at = go (cases_lt e.number (get_or counts e.process 0))
    where
      go : (e.number < get_or counts e.process 0) ⊎ (get_or counts e.process 0 ≤ e.number)
          → get_or counts e.process 0 ≡ e.number
      go (inr le) = omega (arith, le, at.1.1)
      go (inl lt) =
          absurd (at.0.none_after (place e.process (e.number + 1))
          (step_happens c e (place e.process (e.number + 1))
          (inl (event, (omega arith, next), refl, (let l : e.number < e.number + 1 = omega arith in l))))
          (omega arith, omega (arith, lt)))
        where
          next : e.number + 1 ≤ event_count c e.process
          next = omega (arith, lt, at.0.fits.within e.process)
  own_is false e counts event at = go (cases_lt e.number (get_or counts e.process 0 + 1))
    where
      one : 1 ≤ e.number
      one = event.0

      less : get_or counts e.process 0 < e.number
      less = pick (cases_lt (get_or counts e.process 0) e.number)
        where
          pick : (get_or counts e.process 0 < e.number) ⊎ (e.number ≤ get_or counts e.process 0)
              → get_or counts e.process 0 < e.number
          pick (inl lt) = lt
          pick (inr le) = absurd (at.1 (one, le))

      go : (e.number < get_or counts e.process 0 + 1) ⊎ (get_or counts e.process 0 + 1 ≤ e.number)
          → get_or counts e.process 0 ≡ e.number - 1
      go (inl lt) = absurd (omega (arith, lt, less))
      go (inr le) = last (cases_lt e.number 2)
        where
          last : (e.number < 2) ⊎ (2 ≤ e.number) → get_or counts e.process 0 ≡ e.number - 1
          last (inl two) = omega (arith, two, less, one)
          last (inr two) =
              let has : e.number - 1 ≤ get_or counts e.process 0 =
              (at.0.past (place e.process (e.number - 1))
              (step_happens c (place e.process (e.number - 1)) e
              (inl (
                (omega (arith, two), omega (arith, event.1)),
                event,
                refl,
                (let l : e.number - 1 < e.number = omega (arith, two) in l),
              )))).1 in
              omega (arith, has, less, le)

  -- each process has a count that it may have by itself
  pub apart : (spot : Spot) (counts : List ℕ) → IsEvent c (event_of spot) → IsAt c spot counts → (q : ℕ)
      → CanHave c spot q (get_or counts q 0)
  apart spot counts event at q = go (cases_eq q spot.place.process)
    where
      e : Place
      e = event_of spot

      is : IsAround c (event_of spot) counts
      is = around c spot.after (event_of spot) counts at

      go : (q ≡ spot.place.process) ⊎ (q ≡ spot.place.process → ⊥) → CanHave c spot q (get_or counts q 0)
      go (inl same) =
          inl (same, ap (λ (p : ℕ). get_or counts p 0) same ∙ own_is spot.after (event_of spot) counts event at)
      go (inr other) = inr (
        other,
        record {
          within = is.fits.within q;
          past = λ m before. (is.past (place q m) before).1;
          none_after = λ m one le before. is.none_after (place q m) before (one, le);
        },
      )

  -- and all of them together are the set
  pub together : (spot : Spot) (counts : List ℕ) → IsEvent c (event_of spot) → length counts ≡ length c
      → ((q : ℕ) → q < length c → CanHave c spot q (get_or counts q 0)) → IsAt c spot counts
  together spot counts event one_each each = beside spot.after refl
    where
      n : ℕ
      n = spot.place.number

      own : get_or counts spot.place.process 0 ≡ own_count spot
      own = pick (cases_lt spot.place.process (length c))
        where
          of : CanHave c spot spot.place.process (get_or counts spot.place.process 0)
              → get_or counts spot.place.process 0 ≡ own_count spot
          of (inl (same, is)) = is
          of (inr (other, is)) = absurd (other refl)

          pick : (spot.place.process < length c) ⊎ (length c ≤ spot.place.process)
              → get_or counts spot.place.process 0 ≡ own_count spot
          pick (inl lt) = of (each spot.place.process lt)
          pick (inr le) =
              let none : event_count c spot.place.process ≡ 0 =
              ap length (get_or_past c spot.place.process [] le) in
              absurd (omega (arith, none, event.0, event.1))

      -- each process is between
      other_between : (q : ℕ) → q < length c → q ≢ spot.place.process
          → IsBetween c (event_of spot) q (get_or counts q 0)
      other_between q lt other = of (each q lt)
        where
          of : CanHave c spot q (get_or counts q 0) → IsBetween c (event_of spot) q (get_or counts q 0)
          of (inl (same, is)) = absurd (other same)
          of (inr (apart, is)) = is

      -- no process has more than its events
      within : (q : ℕ) → get_or counts q 0 ≤ event_count c q
      within q = pick (cases_lt q (length c)) (cases_eq q spot.place.process)
        where
          pick : (q < length c) ⊎ (length c ≤ q) → (q ≡ spot.place.process) ⊎ (q ≡ spot.place.process → ⊥)
              → get_or counts q 0 ≤ event_count c q
          pick (inr le) s = omega (arith, get_or_past counts q 0 (omega (arith, one_each, le)))
          pick (inl lt) (inl same) =
              let i : get_or counts q 0 ≡ own_count spot = ap (λ (p : ℕ). get_or counts p 0) same ∙ own in
              let h : own_count spot ≤ n = own_high spot.after n in
              let k : event_count c q ≡ event_count c spot.place.process = ap (event_count c) same in
              omega (arith, i, h, k, event.1)
          pick (inl lt) (inr other) = (other_between q lt other).within

      is_around : IsAround c (event_of spot) counts
      is_around = record {
        fits = record { one_each = one_each; within = within };
        past = λ f before. past f before (cases_eq f.process spot.place.process);
        none_after = λ f before includes. none_after f before includes (cases_eq f.process spot.place.process);
      }
        where
          past : (f : Place) → HappenedBefore c f (event_of spot)
              → (f.process ≡ spot.place.process) ⊎ (f.process ≡ spot.place.process → ⊥) → Includes counts f
          past f before (inl same) =
              let are = events_of_happens c f (event_of spot) before in
              let less : f.number < n = before_less f (event_of spot) same before in
              let i : get_or counts f.process 0 ≡ own_count spot = ap (λ (p : ℕ). get_or counts p 0) same ∙ own in
              let l : n - 1 ≤ own_count spot = own_low spot.after n in
              (are.0.0, omega (arith, less, i, l))
          past f before (inr other) =
              let are = events_of_happens c f (event_of spot) before in
              (are.0.0, (other_between f.process (place_inside c f are.0) other).past f.number before)

          none_after : (f : Place) → HappenedBefore c (event_of spot) f → Includes counts f
              → (f.process ≡ spot.place.process) ⊎ (f.process ≡ spot.place.process → ⊥) → ⊥
          none_after f before includes (inl same) =
              let less : n < f.number = before_less (event_of spot) f (sym same) before in
              let i : get_or counts f.process 0 ≡ own_count spot = ap (λ (p : ℕ). get_or counts p 0) same ∙ own in
              let h : own_count spot ≤ n = own_high spot.after n in
              omega (arith, less, i, h, includes.1)
          none_after f before includes (inr other) =
              let are = events_of_happens c (event_of spot) f before in
              (other_between f.process (place_inside c f are.1) other).none_after f.number includes.0 includes.1 before

      beside : (after : Bool) → spot.after ≡ after → IsAt c spot counts
      beside true is =
          subst (λ (b : Bool). IsBeside b c (event_of spot) counts) (sym is)
          (is_around, (event.0, omega (arith, own ∙ ap (λ (b : Bool). own_number b n) is)))
      beside false is =
          subst (λ (b : Bool). IsBeside b c (event_of spot) counts) (sym is) (
            is_around,
            λ includes.
                omega (arith, own ∙ ap (λ (b : Bool). own_number b n) is, event.0, includes.1),
          )

  -- ---- between which counts a process may have any

  pub other_range : (spot : Spot) (q low high : ℕ) → IsEvent c (event_of spot) → q ≢ spot.place.process
      → IsClock c (event_of spot) q low → IsHigh c (event_of spot) q high
      → IsRange c spot q (record { low = low; high = high })
  other_range spot q low high event other clock is = record {
    ordered = ordered (cases_lt high low);
    within = is.none_before.within;
    each = λ count. (to count, from count);
  }
    where
      -- what is in the clock happened before
      in_past : (m : ℕ) → 1 ≤ m → m ≤ low → HappenedBefore c (place q m) (event_of spot)
      in_past m one le = of ((clock.past m one (omega (arith, le, clock.within))).0 le)
        where
          of : IsUpTo c (place q m) (event_of spot) → HappenedBefore c (place q m) (event_of spot)
          of (inl same) = absurd (other (ap (λ (f : Place). f.process) same))
          of (inr before) = before

      ordered : (high < low) ⊎ (low ≤ high) → low ≤ high
      ordered (inr le) = le
      ordered (inl lt) =
          let next : HappenedBefore c (event_of spot) (place q (high + 1)) =
          is.next (omega (arith, lt, clock.within)) in
          absurd (acyclic (event_of spot)
          (happens_transitive c (event_of spot) (place q (high + 1)) (event_of spot) next
          (in_past (high + 1) (omega arith) (omega (arith, lt)))))

      to : (count : ℕ) → (low ≤ count) × (count ≤ high) → CanHave c spot q count
      to count (up, down) = inr (
        other,
        record {
          within = omega (arith, down, is.none_before.within);
          past = λ m before. past m before;
          none_after = λ m one le. is.none_before.none m one (omega (arith, le, down));
        },
      )
        where
          past : (m : ℕ) → HappenedBefore c (place q m) (event_of spot) → m ≤ count
          past m before =
              let at = (events_of_happens c (place q m) (event_of spot) before).0 in
              let le : m ≤ low = (clock.past m at.0 at.1).1 (inr before) in
              omega (arith, le, up)

      from : (count : ℕ) → CanHave c spot q count → (low ≤ count) × (count ≤ high)
      from count (inl (same, own)) = absurd (other same)
      from count (inr (apart, between)) = (lower (cases_lt low 1), upper (cases_lt high count))
        where
          lower : (low < 1) ⊎ (1 ≤ low) → low ≤ count
          lower (inl lt) = omega (arith, lt)
          lower (inr le) = between.past low (in_past low le (omega arith))

          upper : (high < count) ⊎ (count ≤ high) → count ≤ high
          upper (inr le) = le
          upper (inl lt) =
              absurd (between.none_after (high + 1) (omega arith) (omega (arith, lt))
              (is.next (omega (arith, lt, between.within))))

-- ---- all spots

pub have_more : (c : Computation) (p n : ℕ) (spots new : List Spot) → HaveSpots c p n spots → n < event_count c p
    → new ≡ (spots ++ record { place = record { process = p; number = n + 1 }; after = false } ∷ [])
    ++ record { place = record { process = p; number = n + 1 }; after = true } ∷ []
    → HaveSpots c p (n + 1) new
have_more c p n spots new have lt made =
    subst (HaveSpots c p (n + 1)) (sym made) (record {
      there = λ k d. there2 k d;
      all = λ at after event up_to. all at after event up_to;
    })
  where
    here : places.Place
    here = record { process = p; number = n + 1 }

    before : Spot
    before = record { place = record { process = p; number = n + 1 }; after = false }

    after_it : Spot
    after_it = record { place = record { process = p; number = n + 1 }; after = true }

    listed : List Spot
    listed = (spots ++ before ∷ []) ++ after_it ∷ []

    event : IsEvent c (place p (n + 1))
    event = (omega arith, omega (arith, lt))

    there1 : AreThere c (spots ++ before ∷ [])
    there1 k d less =
        each_push (λ i s. IsEvent c (event_of s)) spots (spots ++ before ∷ []) before d (length spots) refl refl
        (λ i low. have.there i d low) event k (omega (arith, less, length_push spots before))

    there2 : AreThere c listed
    there2 k d less =
        each_push (λ i s. IsEvent c (event_of s)) (spots ++ before ∷ []) listed
        after_it d (length (spots ++ before ∷ [])) refl refl (λ i low. there1 i d low) event k
        (omega (arith, less, length_push (spots ++ before ∷ []) after_it))

    all : (at : places.Place) (after : Bool) → IsEvent c (place_view at)
        → (at.process < p) ⊎ ((at.process ≡ p) × (at.number ≤ n + 1))
        → Contains listed (record { place = at; after = after })
    all at after is (inl less) = old (have.all at after is (inl less))
      where
        old : Contains spots (record { place = at; after = after })
            → Contains listed (record { place = at; after = after })
        old has =
            Contains-append_left (spots ++ before ∷ []) (after_it ∷ []) _
            (Contains-append_left spots (before ∷ []) _ has)
    all at after is (inr (same, up)) = pick (cases_lt at.number (n + 1)) after
      where
        old : (b : Bool) → Contains spots (record { place = at; after = b })
            → Contains listed (record { place = at; after = b })
        old b has =
            Contains-append_left (spots ++ before ∷ []) (after_it ∷ []) _
            (Contains-append_left spots (before ∷ []) _ has)

        pick : (at.number < n + 1) ⊎ (n + 1 ≤ at.number) → (b : Bool)
            → Contains listed (record { place = at; after = b })
        pick (inl less) b = old b (have.all at b is (inr (same, omega (arith, less))))
        pick (inr le) true =
            subst (λ (f : places.Place). Contains listed (record { place = f; after = true })) (sym (is_here le))
            (Contains-push (spots ++ before ∷ []) after_it)
          where
            is_here : n + 1 ≤ at.number → at ≡ here
            is_here le =
                let number : at.number ≡ n + 1 = omega (arith, le, up) in
                λ i. record { process = same i; number = number i }
        pick (inr le) false =
            subst (λ (f : places.Place). Contains listed (record { place = f; after = false })) (sym (is_here le))
            (Contains-append_left (spots ++ before ∷ []) (after_it ∷ []) _ (Contains-push spots before))
          where
            is_here : n + 1 ≤ at.number → at ≡ here
            is_here le =
                let number : at.number ≡ n + 1 = omega (arith, le, up) in
                λ i. record { process = same i; number = number i }

pub have_next : (c : Computation) (p n : ℕ) (spots : List Spot) → HaveSpots c p n spots → event_count c p ≤ n
    → HaveSpots c (p + 1) 0 spots
have_next c p n spots have all = record {
  there = have.there;
  all = λ at after event up_to. go at after event up_to;
}
  where
    go : (at : places.Place) (after : Bool) → IsEvent c (place_view at)
        → (at.process < p + 1) ⊎ ((at.process ≡ p + 1) × (at.number ≤ 0))
        → Contains spots (record { place = at; after = after })
    go at after event (inr (same, none)) = absurd (omega (arith, none, event.0))
    go at after event (inl less) = pick (cases_eq at.process p)
      where
        pick : (at.process ≡ p) ⊎ (at.process ≡ p → ⊥) → Contains spots (record { place = at; after = after })
        pick (inr other) = have.all at after event (inl (omega (arith, less, other)))
        pick (inl same) =
            have.all at after event (inr (
              same,
              (let k : event_count c at.process ≡ event_count c p = ap (event_count c) same in
                  omega (arith, k, event.1, all)),
            ))

pub have_none : (c : Computation) → HaveSpots c 0 0 []
have_none c = record {
  there = λ k d lt. absurd (omega (arith, lt));
  all = λ at after event up_to. absurd (go at event up_to);
}
  where
    go : (at : places.Place) → IsEvent c (place_view at) → (at.process < 0) ⊎ ((at.process ≡ 0) × (at.number ≤ 0)) → ⊥
    go at event (inl less) = omega (arith, less)
    go at event (inr (same, none)) = omega (arith, none, event.0)

pub have_all : (c : Computation) (p : ℕ) (spots : List Spot) → HaveSpots c p 0 spots → length c ≤ p → AreSpots c spots
have_all c p spots have all = record {
  there = have.there;
  all = λ at after event. have.all at after event (inl (inside at event));
}
  where
    inside : (at : places.Place) → IsEvent c (place_view at) → at.process < p
    inside at event = pick (cases_lt at.process p)
      where
        pick : (at.process < p) ⊎ (p ≤ at.process) → at.process < p
        pick (inl lt) = lt
        pick (inr le) =
            let none : event_count c at.process ≡ 0 =
            ap length (get_or_past c at.process [] (omega (arith, le, all))) in
            absurd (omega (arith, none, event.0, event.1))
