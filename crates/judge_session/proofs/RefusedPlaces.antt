-- The places that a refusal names are those of events, so their processes are there.
use Rattle.std.proofs.Common.{◌≡◌, suc, ◌<◌, ◌≤◌, ◌⊎◌, inl, inr, List, [], ◌∷◌, ◌++◌, length, get_or, refl, sym, ap, subst, arith, Some, All}
use Rattle.std.specs.Prelude.{IfSome, Vec}
use Rattle.std.specs.Global.{Global}
use Rattle.std.proofs.lemmas.Bool.{cases_lt}
use Rattle.std.proofs.lemmas.List.{append_assoc, get_or_past, length-map}
use Rattle.std.proofs.lemmas.List.Elements.{All-cons}
use Rattle.std.proofs.Math.ListN.{get_or-map}
use Rattle.def_model.specs.Events.{Computation, Place, IsEvent, Linked, first_of, events_of}
use Rattle.def_model.specs.Order.{IsStuck, GoesBackTo, IsReportedCycle}
use Rattle.def_model.proofs.Chains.{events_of_happens}
use Rattle.def_format.specs.Names.{ProcessNames}
use Rattle.pd_clock.specs.Orders.{cycle_view, places_view}
use Rattle.pd_clock.specs.declared.fault.BuildFault.{BuildFault}
use Rattle.pd_clock.specs.declared.fault.BuildFault.TheVariants.{Cycle}
use Rattle.pd_match.specs.Views.{place_view}
use Rattle.pd_match.specs.declared.place.Place.{Place as Stands}
use Rattle.judge_session.specs.Refusals.{HasNames}

-- the process of an event is there
event_process : (c : Computation) (e : Place) → IsEvent c e → e.process < length c
event_process c e is = go (cases_lt e.process (length c))
  where
    go : (e.process < length c) ⊎ (length c ≤ e.process) → e.process < length c
    go (inl lt) = lt
    go (inr le) =
        let none : events_of c e.process ≡ [] = get_or_past c e.process [] le in
        let count : length (events_of c e.process) ≡ 0 = ap length none in
        absurd (omega (arith, is.0, is.1, count))

-- ---- cycles

stuck_is_event : (c : Computation) (e : Place) → IsStuck c e → IsEvent c e
stuck_is_event c e stuck = (events_of_happens c stuck.0 e stuck.2).1

-- what each place goes back to is an event
linked_events : (c : Computation) (places : List Place) (first : Place) → first_of places ≡ Some first → IsEvent c first
    → Linked (GoesBackTo c) places → All (IsEvent c) places
linked_events c [] first e is linked = absurd (cc)
linked_events c (x ∷ []) first e is linked =
    let same : x ≡ first = cc in
    All-cons (IsEvent c) x [] (subst (IsEvent c) (sym same) is) (λ k d below. absurd (omega arith))
linked_events c (x ∷ y ∷ rest) first e is linked =
    let same : x ≡ first = cc in
    All-cons (IsEvent c) x (y ∷ rest) (subst (IsEvent c) (sym same) is)
    (linked_events c (y ∷ rest) y refl (stuck_is_event c y linked.0.0.0) linked.1)

first_longer : (xs ys zs : List Place) (first : Place) → first_of (xs ++ ys) ≡ Some first
    → first_of (xs ++ (ys ++ zs)) ≡ Some first
first_longer [] [] zs first e = absurd (cc)
first_longer [] (y ∷ ys) zs first e = e
first_longer (x ∷ xs) ys zs first e = e

pub all_after : {A : Type 0} (P : A → Type 0) (xs ys : List A) → All P (xs ++ ys) → All P ys
all_after P [] ys all = all
all_after P (x ∷ xs) ys all = all_after P xs ys (λ k d below. all (suc k) d (omega (arith, below)))

pub all_ahead : {A : Type 0} (P : A → Type 0) (xs ys : List A) → All P (xs ++ ys) → All P xs
all_ahead P [] ys all = λ k d below. absurd (omega arith)
all_ahead P (x ∷ xs) ys all =
    All-cons P x xs (all 0 x (omega arith)) (all_ahead P xs ys (λ k d below. all (suc k) d (omega (arith, below))))

cycle_events : (c : Computation) (cycle : List Place) → IsReportedCycle c cycle → All (IsEvent c) cycle
cycle_events c cycle r =
    let first : first_of (r.before ++ (cycle ++ r.start ∷ [])) ≡ Some r.first =
    first_longer r.before cycle (r.start ∷ []) r.first r.begins in
    let all : All (IsEvent c) (r.before ++ (cycle ++ r.start ∷ [])) =
    linked_events c (r.before ++ (cycle ++ r.start ∷ [])) r.first first (stuck_is_event c r.first r.least.0.0)
    (subst (Linked (GoesBackTo c)) (append_assoc r.before cycle (r.start ∷ [])) r.steps) in
    all_ahead (IsEvent c) cycle (r.start ∷ []) (all_after (IsEvent c) r.before (cycle ++ r.start ∷ []) all)

-- the places of a cycle
pub cycle_named : (names : List ProcessNames) (c : Computation) (cycle : List Stands) → length c ≡ length names
    → IsReportedCycle c (places_view cycle) → All (HasNames names) cycle
cycle_named names c cycle same r k d below =
    let within : k < length (places_view cycle) = rw (length-map cycle place_view) below in
    let at : get_or (places_view cycle) k (place_view d) ≡ place_view (get_or cycle k d) =
    get_or-map place_view cycle k d in
    let is : IsEvent c (place_view (get_or cycle k d)) =
    subst (IsEvent c) at (cycle_events c (places_view cycle) r k (place_view d) within) in
    let lt : (get_or cycle k d).process < length c = event_process c (place_view (get_or cycle k d)) is in
    omega (arith, same, lt)

-- the cycle that a fault tells
pub cycle_reported : (P : List Place → Type 0) (fault : BuildFault) (cycle : Vec Stands Global) → fault ≡ Cycle cycle
    → IfSome (cycle_view fault) P → P (places_view cycle.items)
cycle_reported P fault cycle is reported = subst (λ (f : BuildFault). IfSome (cycle_view f) P) is reported
