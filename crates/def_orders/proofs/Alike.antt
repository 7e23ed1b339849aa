-- What two runs of which the same is seen have in common, by the numbers of their kept events. Process p of the first
-- run is process `to p` of the second one, and process q of the second one is process `from q` of the first.
use Rattle.std.proofs.Common.{◌≡◌, ℕ, ◌<◌, ◌≤◌, List, [], length, get_or, subst, ◌↔◌}
use Rattle.def_model.specs.Events.{Computation, place}
use Rattle.def_model.specs.Order.{HasNoCycle, IsUpTo}
use Rattle.def_model.specs.Predicates.{Recorded}
use Rattle.def_orders.specs.Orders.{AreKept, values_after}
use Rattle.def_orders.proofs.Ranks.{ranked}

-- The event of process p with rank i is up to that of process q with rank j.
abbrev pub IsUpToListed : Computation → (numbers : List (List ℕ)) → ℕ → ℕ → ℕ → ℕ → Type 0
IsUpToListed c numbers p i q j =
    IsUpTo c (place p (get_or (get_or numbers p []) i 0)) (place q (get_or (get_or numbers q []) j 0))

-- It is in one run exactly if the same holds of the two in the other run.
abbrev pub AreOrderedAlike : (c c' : Computation) (to : ℕ → ℕ) (numbers numbers' : List (List ℕ))
    → ℕ → ℕ → ℕ → ℕ → Type 0
AreOrderedAlike c c' to numbers numbers' p i q j =
    IsUpToListed c numbers p i q j ↔ IsUpToListed c' numbers' (to p) i (to q) j

-- Of each process both runs keep as many events, and these are in the same order. A process of which events are kept
-- has one place in the other run.
pub record AreAlike (r r' : Recorded) (to from : ℕ → ℕ) (named named' numbers numbers' : List (List ℕ)) : Type 0 where
  pub no_cycle : HasNoCycle r.events
  pub no_cycle' : HasNoCycle r'.events
  pub kept : (p : ℕ) → AreKept r p (get_or named p []) (get_or numbers p [])
  pub kept' : (q : ℕ) → AreKept r' q (get_or named' q []) (get_or numbers' q [])
  pub returns : (p i : ℕ) → i < length (get_or numbers p []) → from (to p) ≡ p
  pub returns' : (q i : ℕ) → i < length (get_or numbers' q []) → to (from q) ≡ q
  pub as_many : (p : ℕ) → length (get_or numbers p []) ≡ length (get_or numbers' (to p) [])
  pub as_many' : (q : ℕ) → length (get_or numbers' q []) ≡ length (get_or numbers (from q) [])
  pub same_order : (p i q j : ℕ) → i < length (get_or numbers p []) → j < length (get_or numbers q [])
      → AreOrderedAlike r.events r'.events to numbers numbers' p i q j

-- The named variables of a process have the same values in both runs at the beginning and after each kept event.
pub record AreWorthTheSame (r r' : Recorded) (to : ℕ → ℕ) (named named' numbers numbers' : List (List ℕ)) : Type 0 where
  pub same_names : (p : ℕ) → get_or named' (to p) [] ≡ get_or named p []
  pub same_values : (p k : ℕ) → k ≤ length (get_or numbers p [])
      → values_after r p (get_or named p []) (ranked (get_or numbers p []) k)
      ≡ values_after r' (to p) (get_or named p []) (ranked (get_or numbers' (to p) []) k)

-- the same of the second run and the first
pub swapped : (r r' : Recorded) (to from : ℕ → ℕ) (named named' numbers numbers' : List (List ℕ))
    → AreAlike r r' to from named named' numbers numbers' → AreAlike r' r from to named' named numbers' numbers
swapped r r' to from named named' numbers numbers' alike = record {
  no_cycle = alike.no_cycle';
  no_cycle' = alike.no_cycle;
  kept = alike.kept';
  kept' = alike.kept;
  returns = alike.returns';
  returns' = alike.returns;
  as_many = alike.as_many';
  as_many' = alike.as_many;
  same_order = same_order;
}
  where
    same_order : (p i q j : ℕ) → i < length (get_or numbers' p []) → j < length (get_or numbers' q [])
        → AreOrderedAlike r'.events r.events from numbers' numbers p i q j
    same_order p i q j in_p in_q =
        subst (λ (x : ℕ). IsUpToListed r'.events numbers' p i x j
        ↔ IsUpToListed r.events numbers (from p) i (from q) j) (alike.returns' q j in_q)
        (subst (λ (x : ℕ). IsUpToListed r'.events numbers' x i (to (from q)) j
        ↔ IsUpToListed r.events numbers (from p) i (from q) j) (alike.returns' p i in_p) (order.1, order.0))
      where
        order : AreOrderedAlike r.events r'.events to numbers numbers' (from p) i (from q) j
        order =
            alike.same_order (from p) i (from q) j (subst (λ (n : ℕ). i < n) (alike.as_many' p) in_p)
            (subst (λ (n : ℕ). j < n) (alike.as_many' q) in_q)
