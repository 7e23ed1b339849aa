-- The first stuck events by what the order leaves out, and a process among the places taken.
use Rattle.std.proofs.Common.{◌≡◌, ◌≢◌, ℕ, ◌+◌, ◌<◌, ◌≤◌, Bool, true, false, eqb, cond, List, length, get_or, Some, None, arith}
use Rattle.std.specs.Prelude.{position, nat_lt}
use Rattle.std.specs.List.{position_or_len}
use Rattle.std.proofs.lemmas.Bool.Decides.{nat_tests}
use Rattle.std.proofs.lemmas.List.{get_or-map, length-map}
use Rattle.std.proofs.lemmas.List.Quantifiers.{position-Some}
use Rattle.std.proofs.lemmas.List.Sums.{fails_before_first}
use Rattle.def_model.specs.Events.{Computation, place, IsEvent, event_count}
use Rattle.def_model.specs.Order.{IsStuck, IsFirstStuck}
use Rattle.def_model.proofs.StuckWay.{IsNew, stuck_event}
use Rattle.pd_clock.specs.Orders.{LeavesStuck, places_view}
use Rattle.pd_match.specs.Views.{place_view}
use Rattle.pd_match.specs.declared.place.Place.{Place}

-- ---- the first stuck event of a process

pub first_left : (c : Computation) (done : List ℕ) → LeavesStuck c done → (p : ℕ) → get_or done p 0 < event_count c p
    → IsFirstStuck c (place p (get_or done p 0 + 1))
first_left c done left p lt = (
  (left.left (place p (get_or done p 0 + 1)) (omega arith, omega arith)).0 (omega arith),
  λ n less stuck. before n less stuck,
)
  where
    before : (n : ℕ) → n < get_or done p 0 + 1 → ¬ IsStuck c (place p n)
    before n less stuck =
        let following : get_or done p 0 < n = (left.left (place p n) (stuck_event c (place p n) stuck)).1 stuck in
        omega arith

pub none_left : (c : Computation) (done : List ℕ) → LeavesStuck c done → (p : ℕ) → event_count c p ≤ get_or done p 0
    → (n : ℕ) → ¬ IsStuck c (place p n)
none_left c done left p le n stuck =
    let is : IsEvent c (place p n) = stuck_event c (place p n) stuck in
    let within : n ≤ event_count c p = is.1 in
    let following : get_or done p 0 < n = (left.left (place p n) is).1 stuck in
    omega arith

-- ---- a process among the places taken

abbrev pub is_of : ℕ → Place → Bool
is_of process place = eqb place.process process

past_last : (n len : ℕ) → cond (nat_lt n len) (Some n) None ≡ None → len ≤ n
past_last n len e = grind (arith, nat_tests)

other : (m n : ℕ) → eqb m n ≡ false → m ≢ n
other m n e same = grind (arith, nat_tests)

equal : (m n : ℕ) → eqb m n ≡ true → m ≡ n
equal m n e = grind (arith, nat_tests)

pub new_from_none : (xs : List Place) (here : Place) → position (is_of here.process) xs ≡ None
    → IsNew (places_view xs) (place_view here)
new_from_none xs here e k d within = rw (seen) (other (get_or xs k here).process here.process fails)
  where
    count : length (places_view xs) ≡ length xs
    count = length-map xs place_view

    past : length xs ≤ position_or_len (is_of here.process) xs
    past = past_last (position_or_len (is_of here.process) xs) (length xs) e

    seen : get_or (places_view xs) k d ≡ place_view (get_or xs k here)
    seen = get_or-map place_view xs k here d (omega (arith, count))

    fails : is_of here.process (get_or xs k here) ≡ false
    fails = fails_before_first (is_of here.process) xs k here (omega (arith, count, past))

pub taken_from_some : (xs : List Place) (here : Place) (k : ℕ) → position (is_of here.process) xs ≡ Some k
    → (k < length (places_view xs)) × ((get_or (places_view xs) k (place_view here)).process ≡ here.process)
taken_from_some xs here k e =
    let found : (k < length xs) × (is_of here.process (get_or xs k here) ≡ true)
    × ((j : ℕ) → j < k → is_of here.process (get_or xs j here) ≡ false) =
    position-Some (is_of here.process) xs k here e in
    let count : length (places_view xs) ≡ length xs = length-map xs place_view in
    let lt : k < length xs = found.0 in (
      omega arith,
      rw (get_or-map place_view xs k here (place_view here) lt)
          (equal (get_or xs k here).process here.process found.1),
    )
