-- The example of a run of three processes of which one isn't seen.
use Rattle.std.proofs.Common.{◌≡◌, ℕ, zero, suc, ◌<◌, List, [], ◌∷◌, length, get_or, All, Contains, refl, inl, inr, arith, lit≤}
use Rattle.def_model.specs.Events.{IsEvent, place}
use Rattle.def_model.specs.Order.{HappenedBefore, IsClock}
use Rattle.def_model.specs.Examples.{one_message}
use Rattle.def_model.proofs.Chains.{events_of_happens}
use Rattle.def_model.proofs.ClockSteps.{own_clock}
use Rattle.def_long.specs.Examples.{relay, relayed}
use Rattle.def_long.proofs.Tried.{by_second, relayed_before}
use Rattle.def_orders.specs.Examples.{MiddleIsNotSeen, one_after_one, one_after_one_of_three}
use Rattle.def_orders.specs.Orders.{AreKept, IsKnownTo, IsOrderOf, IsSeenOf, ProcessOrder, count_up_to}
use Rattle.def_orders.specs.Selections.{AreParts, IsPartOf}
use Rattle.def_orders.proofs.Onward.{all_known, no_cycle_onward, none_known}
use Rattle.def_orders.proofs.Tried.{StaysAtOthers, from_0_to_1, one_kept, one_onward, one_order}

-- ---- what is kept of the three

abbrev Named : List (List ℕ)
Named = (0 ∷ []) ∷ [] ∷ (0 ∷ []) ∷ []

abbrev Numbers : List (List ℕ)
Numbers = (1 ∷ []) ∷ [] ∷ (2 ∷ []) ∷ []

first_kept : AreKept relay 0 (0 ∷ []) (1 ∷ [])
first_kept = one_kept relay 0 0 (lit≤ tt, lit≤ tt) stays from_0_to_1
  where
    stays : StaysAtOthers relay 0 1
    stays zero lt out = absurd (out (0, lit≤ tt, refl))
    stays (suc m) lt out = absurd (omega arith)

none_kept : AreKept relay 1 [] []
none_kept = record {
  ascend = λ i j d lt within. absurd (omega arith);
  events = λ i d within. absurd (omega arith);
  changes = λ n (i, within, at). absurd (omega arith);
  others = λ n lt out. refl;
}

third_kept : AreKept relay 2 (0 ∷ []) (2 ∷ [])
third_kept = one_kept relay 2 1 (lit≤ tt, lit≤ tt) stays from_0_to_1
  where
    stays : StaysAtOthers relay 2 2
    stays zero lt out = refl
    stays (suc zero) lt out = absurd (out (0, lit≤ tt, refl))
    stays (suc (suc m)) lt out = absurd (omega arith)

-- ---- the rows

events : IsEvent relayed (place 0 1) × IsEvent relayed (place 2 2)
events = events_of_happens relayed (place 0 1) (place 2 2) by_second

-- the second process sends to the third before that one sets its variable
second_before : HappenedBefore relayed (place 1 2) (place 2 2)
second_before = (
  place 2 1 ∷ [],
  (inr (110 ∷ [], refl, refl, λ e. omega arith), (inl ((lit≤ tt, lit≤ tt), (lit≤ tt, lit≤ tt), refl, lit≤ tt), tt)),
)

known_to_first : IsKnownTo relay Numbers (place 0 1) (1 ∷ 0 ∷ 0 ∷ [])
known_to_first = record { one_each = refl; each = each }
  where
    each : (q : ℕ) → q < 3 → (n : ℕ) × IsClock relayed (place 0 1) q n
        × (get_or (1 ∷ 0 ∷ 0 ∷ []) q 0 ≡ count_up_to (get_or Numbers q []) n)
    each zero lt =
        (1, own_clock relayed (place 0 1) events.0 (no_cycle_onward relayed relayed_before (place 0 1)), refl)
    each (suc zero) lt = (0, none_known relayed relayed_before 0 1 1 (lit≤ tt), refl)
    each (suc (suc zero)) lt = (0, none_known relayed relayed_before 0 1 2 (lit≤ tt), refl)
    each (suc (suc (suc q))) lt = absurd (omega arith)

known_to_third : IsKnownTo relay Numbers (place 2 2) (1 ∷ 0 ∷ 1 ∷ [])
known_to_third = record { one_each = refl; each = each }
  where
    each : (q : ℕ) → q < 3 → (n : ℕ) × IsClock relayed (place 2 2) q n
        × (get_or (1 ∷ 0 ∷ 1 ∷ []) q 0 ≡ count_up_to (get_or Numbers q []) n)
    each zero lt = (1, all_known relayed 2 2 0 1 refl by_second, refl)
    each (suc zero) lt = (2, all_known relayed 2 2 1 2 refl second_before, refl)
    each (suc (suc zero)) lt =
        (2, own_clock relayed (place 2 2) events.1 (no_cycle_onward relayed relayed_before (place 2 2)), refl)
    each (suc (suc (suc q))) lt = absurd (omega arith)

order_of_three : IsOrderOf relay Named one_after_one_of_three
order_of_three = record { numbers = Numbers; all_named = refl; all_kept = refl; all_seen = refl; each = each }
  where
    each : (p : ℕ) (of : ProcessOrder) → p < 3
        → IsSeenOf relay (get_or Named p []) Numbers p (get_or one_after_one_of_three p of)
    each zero of lt = record {
      kept = first_kept;
      values = refl;
      rows = (1 ∷ 0 ∷ 0 ∷ []) ∷ [];
      are_rows = (known_to_first, tt);
      known = refl;
    }
    each (suc zero) of lt = record { kept = none_kept; values = refl; rows = []; are_rows = tt; known = refl }
    each (suc (suc zero)) of lt = record {
      kept = third_kept;
      values = refl;
      rows = (1 ∷ 0 ∷ 1 ∷ []) ∷ [];
      are_rows = (known_to_third, tt);
      known = refl;
    }
    each (suc (suc (suc p))) of lt = absurd (omega arith)

-- ---- the part of it

are_parts : AreParts (0 ∷ 2 ∷ []) one_after_one_of_three one_after_one
are_parts = record { one_each = refl; each = each }
  where
    one_long : (row : List ℕ) → length row ≡ 3 → All (λ (r : List ℕ). length r ≡ 3) (row ∷ [])
    one_long row long zero d lt = long
    one_long row long (suc k) d lt = absurd (omega arith)

    each : (i : ℕ) (d : ProcessOrder) → i < 2
        → IsPartOf 3 (0 ∷ 2 ∷ []) (get_or one_after_one_of_three (get_or (0 ∷ 2 ∷ []) i 0) d) (get_or one_after_one i d)
    each zero d lt = record {
      values = refl;
      rows = (1 ∷ 0 ∷ 0 ∷ []) ∷ [];
      long = one_long (1 ∷ 0 ∷ 0 ∷ []) refl;
      known = refl;
      part_known = refl;
    }
    each (suc zero) d lt = record {
      values = refl;
      rows = (1 ∷ 0 ∷ 1 ∷ []) ∷ [];
      long = one_long (1 ∷ 0 ∷ 1 ∷ []) refl;
      known = refl;
      part_known = refl;
    }
    each (suc (suc i)) d lt = absurd (omega arith)

pub middle_is_not_seen : MiddleIsNotSeen
middle_is_not_seen = record {
  some = lit≤ tt;
  ascend = ascend;
  there = there;
  unseen = unseen;
  as_many = refl;
  values_each = refl;
  same_initial = refl;
  no_cycle = no_cycle_onward relayed relayed_before;
  no_cycle' = no_cycle_onward one_message one_onward;
  first = order_of_three;
  second = one_order;
  are_parts = are_parts;
}
  where
    ascend : (i j d : ℕ) → i < j → j < 2 → get_or (0 ∷ 2 ∷ []) i d < get_or (0 ∷ 2 ∷ []) j d
    ascend zero (suc zero) d lt within = lit≤ tt
    ascend (suc i) (suc zero) d lt within = absurd (omega arith)
    ascend i zero d lt within = absurd (omega arith)
    ascend i (suc (suc j)) d lt within = absurd (omega arith)

    there : All (λ (p : ℕ). p < 3) (0 ∷ 2 ∷ [])
    there zero d lt = lit≤ tt
    there (suc zero) d lt = lit≤ tt
    there (suc (suc i)) d lt = absurd (omega arith)

    unseen : (p : ℕ) → p < 3 → (Contains (0 ∷ 2 ∷ []) p → ⊥) → get_or Named p [] ≡ []
    unseen zero lt out = absurd (out (0, lit≤ tt, refl))
    unseen (suc zero) lt out = refl
    unseen (suc (suc zero)) lt out = absurd (out (1, lit≤ tt, refl))
    unseen (suc (suc (suc p))) lt out = absurd (omega arith)
