-- The order of places, and the places before one.
use Rattle.std.proofs.Common.{◌≡◌, ℕ, suc, ◌<◌, ◌≤◌, length, refl, inl, inr, ◌⊎◌, arith}
use Rattle.std.proofs.lemmas.Bool.{cases_lt}
use Rattle.def_model.specs.Events.{Computation, Place, IsBefore, IsEvent, event_count}
use Rattle.def_model.proofs.Chains.{same_place}
use Rattle.def_model.proofs.Consistency.{process_in_range}
use Rattle.pd_match.specs.Noted.{event_place}

pub not_before_itself : (d : Place) → ¬ IsBefore d d
not_before_itself d (inl h) = omega arith
not_before_itself d (inr (e, h)) = omega arith

pub before_transitive : (d e f : Place) → IsBefore d e → IsBefore e f → IsBefore d f
before_transitive d e f (inl g) (inl h) = inl (omega arith)
before_transitive d e f (inl g) (inr (i, h)) = inl (omega arith)
before_transitive d e f (inr (i, g)) (inl h) = inl (omega arith)
before_transitive d e f (inr (i, g)) (inr (j, h)) = inr (omega arith, omega arith)

pub before_more : (d : Place) (p n : ℕ) → IsBefore d (event_place p n) → IsBefore d (event_place p (suc n))
before_more d p n (inl h) = inl h
before_more d p n (inr (e, h)) = inr (e, omega arith)

pub here_before_next : (p n : ℕ) → IsBefore (event_place p n) (event_place p (suc n))
here_before_next p n = inr (refl, omega arith)

pub before_next : (d : Place) (p n : ℕ) → IsBefore d (event_place p (suc n)) → IsBefore d (event_place p n)
    ⊎ (d ≡ event_place p n)
before_next d p n (inl h) = inl (inl h)
before_next d p n (inr (e, h)) = go (cases_lt d.number (suc n))
  where
    go : (d.number < suc n) ⊎ (suc n ≤ d.number) → IsBefore d (event_place p n) ⊎ (d ≡ event_place p n)
    go (inl l) = inl (inr (e, l))
    go (inr l) = inr (same_place d (event_place p n) e (omega arith))

-- what is before the end of a process is before the next process
pub before_next_process : (c : Computation) (d : Place) (p : ℕ) → IsBefore d (event_place p (event_count c p))
    → IsBefore d (event_place (suc p) 0)
before_next_process c d p (inl h) = inl (omega arith)
before_next_process c d p (inr (e, h)) = inl (omega arith)

-- and so is an event
pub before_process_end : (c : Computation) (d : Place) (p : ℕ) → IsEvent c d → IsBefore d (event_place (suc p) 0)
    → IsBefore d (event_place p (event_count c p))
before_process_end c d p is (inl h) = go (cases_lt d.process p)
  where
    go : (d.process < p) ⊎ (p ≤ d.process) → IsBefore d (event_place p (event_count c p))
    go (inl l) = inl l
    go (inr l) =
        let e : d.process ≡ p = omega arith in
        let w : d.number ≤ event_count c p = rw e at is.1 in
        inr (e, omega arith)
before_process_end c d p is (inr (e, h)) = let w : 1 ≤ d.number = is.0 in absurd (omega arith)

pub none_before_first : (c : Computation) (d : Place) → IsEvent c d → ¬ IsBefore d (event_place 0 0)
none_before_first c d is (inl h) = omega arith
none_before_first c d is (inr (e, h)) = let w : 1 ≤ d.number = is.0 in omega arith

pub each_before_end : (c : Computation) (d : Place) → IsEvent c d → IsBefore d (event_place (length c) 0)
each_before_end c d is = inl (process_in_range c d is)
