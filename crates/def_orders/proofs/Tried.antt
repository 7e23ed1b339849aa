-- The example of two runs of one order.
use Rattle.std.proofs.Common.{◌≡◌, ◌≢◌, ℕ, zero, suc, ◌+◌, ◌<◌, List, [], ◌∷◌, length, get_or, pos, flat_map, Some, Contains, refl, sym, subst, inl, inr, arith, lit≤}
use Rattle.def_model.specs.Events.{Send, Receive, Computation, place, IsEvent, kind_at, event_count}
use Rattle.def_model.specs.Order.{HappenedBefore, IsClock}
use Rattle.def_model.specs.Examples.{one_message}
use Rattle.def_model.specs.Predicates.{Recorded}
use Rattle.def_model.proofs.Chains.{events_of_happens, step_happens}
use Rattle.def_model.proofs.ClockSteps.{own_clock}
use Rattle.def_long.proofs.Tried.{one_receives, one_sends}
use Rattle.def_orders.proofs.Onward.{HappensOnward, all_known, messages_onward, no_cycle_onward, none_known}
use Rattle.def_orders.specs.Examples.{OthersAreNotSeen, from_zeros, one_after_one, with_others}
use Rattle.def_orders.specs.Orders.{AreKept, IsKnownTo, IsOrderOf, IsSeenOf, ProcessOrder, count_up_to, values_after}

-- the order in which the first process's event happened before the second one's
abbrev IsOneAfterOne : Computation → Type 0
IsOneAfterOne c = IsOrderOf (from_zeros c) ((0 ∷ []) ∷ (0 ∷ []) ∷ []) one_after_one

-- ---- a last event of the first process that happened before the one kept event of the second

module _ (c : Computation) (onward : HappensOnward c) (a b : ℕ) (last : event_count c 0 ≡ a)
    (sent : HappenedBefore c (place 0 a) (place 1 b)) (first_one : count_up_to (a ∷ []) a ≡ 1)
    (second_one : count_up_to (b ∷ []) b ≡ 1) (none : count_up_to (b ∷ []) 0 ≡ 0) where
  abbrev Numbers : List (List ℕ)
  Numbers = (a ∷ []) ∷ (b ∷ []) ∷ []

  events : IsEvent c (place 0 a) × IsEvent c (place 1 b)
  events = events_of_happens c (place 0 a) (place 1 b) sent

  known_to_first : IsKnownTo (from_zeros c) Numbers (place 0 a) (1 ∷ 0 ∷ [])
  known_to_first = record { one_each = refl; each = each }
    where
      each : (q : ℕ) → q < 2 → (n : ℕ) × IsClock c (place 0 a) q n
          × (get_or (1 ∷ 0 ∷ []) q 0 ≡ count_up_to (get_or Numbers q []) n)
      each zero lt = (a, own_clock c (place 0 a) events.0 (no_cycle_onward c onward (place 0 a)), sym first_one)
      each (suc zero) lt = (0, none_known c onward 0 a 1 (lit≤ tt), sym none)
      each (suc (suc q)) lt = absurd (omega arith)

  known_to_second : IsKnownTo (from_zeros c) Numbers (place 1 b) (1 ∷ 1 ∷ [])
  known_to_second = record { one_each = refl; each = each }
    where
      each : (q : ℕ) → q < 2 → (n : ℕ) × IsClock c (place 1 b) q n
          × (get_or (1 ∷ 1 ∷ []) q 0 ≡ count_up_to (get_or Numbers q []) n)
      each zero lt = (a, all_known c 1 b 0 a last sent, sym first_one)
      each (suc zero) lt = (b, own_clock c (place 1 b) events.1 (no_cycle_onward c onward (place 1 b)), sym second_one)
      each (suc (suc q)) lt = absurd (omega arith)

  -- So that order is seen, if both keep these events and have these values.
  order_of_two : length c ≡ 2 → AreKept (from_zeros c) 0 (0 ∷ []) (a ∷ []) → AreKept (from_zeros c) 1 (0 ∷ []) (b ∷ [])
      → pos 0 ∷ pos 1 ∷ [] ≡ flat_map (values_after (from_zeros c) 0 (0 ∷ [])) (0 ∷ a ∷ [])
      → pos 0 ∷ pos 1 ∷ [] ≡ flat_map (values_after (from_zeros c) 1 (0 ∷ [])) (0 ∷ b ∷ []) → IsOneAfterOne c
  order_of_two two kept kept' values values' =
      record { numbers = Numbers; all_named = sym two; all_kept = sym two; all_seen = sym two; each = each }
    where
      each : (p : ℕ) (of : ProcessOrder) → p < length c
          → IsSeenOf (from_zeros c) (get_or ((0 ∷ []) ∷ (0 ∷ []) ∷ []) p []) Numbers p (get_or one_after_one p of)
      each zero of lt = record {
        kept = kept;
        values = values;
        rows = (1 ∷ 0 ∷ []) ∷ [];
        are_rows = (known_to_first, tt);
        known = refl;
      }
      each (suc zero) of lt = record {
        kept = kept';
        values = values';
        rows = (1 ∷ 1 ∷ []) ∷ [];
        are_rows = (known_to_second, tt);
        known = refl;
      }
      each (suc (suc p)) of lt = absurd (omega arith)

-- Each event but the one with this number leaves the process's variable as it was.
abbrev pub StaysAtOthers : Recorded → ℕ → ℕ → Type 0
StaysAtOthers r p n =
    (m : ℕ) → m < event_count r.events p → (Contains (n ∷ []) (m + 1) → ⊥)
    → values_after r p (0 ∷ []) m ≡ values_after r p (0 ∷ []) (m + 1)

-- The event after the first k of process p is its one kept event.
pub one_kept : (r : Recorded) (p k : ℕ) → IsEvent r.events (place p (k + 1)) → StaysAtOthers r p (k + 1)
    → values_after r p (0 ∷ []) k ≢ values_after r p (0 ∷ []) (k + 1)
    → AreKept r p (0 ∷ []) ((k + 1) ∷ [])
one_kept r p k is others differ =
    record { ascend = ascend; events = events; changes = changes; others = others }
  where
    ascend : (i j d : ℕ) → i < j → j < 1 → get_or ((k + 1) ∷ []) i d < get_or ((k + 1) ∷ []) j d
    ascend i j d lt within = absurd (omega arith)

    events : (i d : ℕ) → i < 1 → IsEvent r.events (place p (get_or ((k + 1) ∷ []) i d))
    events zero d lt = is
    events (suc i) d lt = absurd (omega arith)

    changes : (n : ℕ) → Contains ((k + 1) ∷ []) (n + 1)
        → values_after r p (0 ∷ []) n ≢ values_after r p (0 ∷ []) (n + 1)
    changes n (zero, lt, at) =
        let same : k ≡ n = omega (arith, at) in
        subst (λ (m : ℕ).
        values_after r p (0 ∷ []) m ≢ values_after r p (0 ∷ []) (m + 1)) same differ
    changes n (suc i, lt, at) = absurd (omega (arith, lt))

-- one variable that goes from 0 to 1
pub from_0_to_1 : pos 0 ∷ [] ≢ pos 1 ∷ []
from_0_to_1 same = cc

-- ---- the run of the two events

pub one_onward : HappensOnward one_message
one_onward = messages_onward one_message one_sends one_receives

one_sent : HappenedBefore one_message (place 0 1) (place 1 1)
one_sent = step_happens one_message (place 0 1) (place 1 1) (inr (109 ∷ [], refl, refl, (λ e. omega arith)))

pub one_order : IsOneAfterOne one_message
one_order =
    order_of_two one_message one_onward 1 1 refl one_sent refl refl refl refl
    (one_kept (from_zeros one_message) 0 0 (lit≤ tt, lit≤ tt) first from_0_to_1)
    (one_kept (from_zeros one_message) 1 0 (lit≤ tt, lit≤ tt) second from_0_to_1) refl refl
  where
    first : StaysAtOthers (from_zeros one_message) 0 1
    first zero lt out = absurd (out (0, lit≤ tt, refl))
    first (suc m) lt out = absurd (omega arith)

    second : StaysAtOthers (from_zeros one_message) 1 1
    second zero lt out = absurd (out (0, lit≤ tt, refl))
    second (suc m) lt out = absurd (omega arith)

-- ---- the run of four

others_send : (p n : ℕ) (id : List ℕ) → kind_at with_others (place p n) ≡ Some (Send id) → p ≡ 0
others_send zero n id e = refl
others_send (suc zero) zero id e = cc
others_send (suc zero) (suc zero) id e = cc
others_send (suc zero) (suc (suc zero)) id e = cc
others_send (suc zero) (suc (suc (suc n))) id e = cc
others_send (suc (suc p)) zero id e = cc
others_send (suc (suc p)) (suc n) id e = cc

others_receive : (p n : ℕ) (id : List ℕ) → kind_at with_others (place p n) ≡ Some (Receive id) → p ≡ 1
others_receive zero zero id e = cc
others_receive zero (suc zero) id e = cc
others_receive zero (suc (suc zero)) id e = cc
others_receive zero (suc (suc (suc n))) id e = cc
others_receive (suc zero) n id e = refl
others_receive (suc (suc p)) zero id e = cc
others_receive (suc (suc p)) (suc n) id e = cc

others_onward : HappensOnward with_others
others_onward = messages_onward with_others others_send others_receive

others_sent : HappenedBefore with_others (place 0 2) (place 1 2)
others_sent = (
  place 1 1 ∷ [],
  (inr (109 ∷ [], refl, refl, λ e. omega arith), (inl ((lit≤ tt, lit≤ tt), (lit≤ tt, lit≤ tt), refl, lit≤ tt), tt)),
)

others_order : IsOneAfterOne with_others
others_order =
    order_of_two with_others others_onward 2 2 refl others_sent refl refl refl refl
    (one_kept (from_zeros with_others) 0 1 (lit≤ tt, lit≤ tt) first from_0_to_1)
    (one_kept (from_zeros with_others) 1 1 (lit≤ tt, lit≤ tt) second from_0_to_1) refl refl
  where
    first : StaysAtOthers (from_zeros with_others) 0 2
    first zero lt out = refl
    first (suc zero) lt out = absurd (out (0, lit≤ tt, refl))
    first (suc (suc m)) lt out = absurd (omega arith)

    second : StaysAtOthers (from_zeros with_others) 1 2
    second zero lt out = refl
    second (suc zero) lt out = absurd (out (0, lit≤ tt, refl))
    second (suc (suc m)) lt out = absurd (omega arith)

pub others_are_not_seen : OthersAreNotSeen
others_are_not_seen = record {
  some = lit≤ tt;
  as_many = refl;
  same_initial = refl;
  no_cycle = no_cycle_onward one_message one_onward;
  no_cycle' = no_cycle_onward with_others others_onward;
  first = one_order;
  second = others_order;
}
