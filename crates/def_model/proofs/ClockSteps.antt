-- The clock of an event from the clocks of the events that lead to it.
use Rattle.std.proofs.Common.{◌≡◌, ◌≢◌, ℕ, ◌+◌, ◌<◌, ◌≤◌, max, refl, sym, ap, ◌∙◌, subst, inl, inr, ◌⊎◌, ◌↔◌, arith}
use Rattle.std.proofs.lemmas.Bool.{cases_lt}
use Rattle.def_model.specs.Events.{Computation, Place, place, IsEvent, event_count}
use Rattle.def_model.specs.Messages.{IsMessage}
use Rattle.def_model.specs.Order.{LeadsTo, HappenedBefore, HasNoCycle, IsUpTo, IsClock}
use Rattle.def_model.proofs.Chains.{same_place, step_happens, happens_transitive, happens_before_later, events_of_happens}
use Rattle.def_model.proofs.Stuck.{last_step}

-- P holds of the first n events of process q, and of no other
pub record CountsWhere (c : Computation) (P : Place → Type 0) (q n : ℕ) : Type 0 where
  pub within : n ≤ event_count c q
  pub first : (m : ℕ) → 1 ≤ m → m ≤ event_count c q → (m ≤ n) ↔ P (place q m)

-- d is the event before (p, n + 1) of its process, or happened before it
abbrev pub IsUpToOwn : Computation → ℕ → ℕ → Place → Type 0
IsUpToOwn c p n d = IsEvent c (place p n) × IsUpTo c d (place p n)

-- d is the send of e's message, or happened before it
abbrev pub IsUpToSend : Computation → Place → Place → Type 0
IsUpToSend c e d = (send : Place) × IsMessage c send e × IsUpTo c d send

-- what is up to an event happened before each that the event leads to
pub up_to_then : (c : Computation) (d x e : Place) → IsUpTo c d x → LeadsTo c x e → HappenedBefore c d e
up_to_then c d x e (inl same) step =
    subst (λ (y : Place). HappenedBefore c y e) (sym same) (step_happens c x e step)
up_to_then c d x e (inr h) step = happens_transitive c d x e h (step_happens c x e step)

-- of another process: the greater of the two counts
pub clock_step : (c : Computation) (p n q a b : ℕ) → IsEvent c (place p (n + 1)) → q ≢ p
    → CountsWhere c (IsUpToOwn c p n) q a → CountsWhere c (IsUpToSend c (place p (n + 1))) q b
    → IsClock c (place p (n + 1)) q (max a b)
clock_step c p n q a b is other own sent =
    record { within = within; past = λ m low high. (to m low high, from m low high) }
  where
    within : max a b ≤ event_count c q
    within = let x : a ≤ event_count c q = own.within in let y : b ≤ event_count c q = sent.within in omega arith

    to : (m : ℕ) → 1 ≤ m → m ≤ event_count c q → m ≤ max a b → IsUpTo c (place q m) (place p (n + 1))
    to m low high le = go (cases_lt a m)
      where
        go : (a < m) ⊎ (m ≤ a) → IsUpTo c (place q m) (place p (n + 1))
        go (inr le_a) =
            let w : IsUpToOwn c p n (place q m) = (own.first m low high).0 le_a in
            inr (up_to_then c (place q m) (place p n) (place p (n + 1)) w.1 (inl (w.0, is, refl, omega arith)))
        go (inl lt) =
            let w : IsUpToSend c (place p (n + 1)) (place q m) = (sent.first m low high).0 (omega arith) in
            inr (up_to_then c (place q m) w.0 (place p (n + 1)) w.2 (inr w.1))

    from : (m : ℕ) → 1 ≤ m → m ≤ event_count c q → IsUpTo c (place q m) (place p (n + 1)) → m ≤ max a b
    from m low high (inl same) = absurd (other (ap (λ (x : Place). x.process) same))
    from m low high (inr h) = go (last_step c (place q m) (place p (n + 1)) h)
      where
        by_own : m ≤ a → m ≤ max a b
        by_own le = omega arith

        by_send : m ≤ b → m ≤ max a b
        by_send le = omega arith

        turned : (x : Place) → (x ≡ place q m) ⊎ HappenedBefore c (place q m) x → IsUpTo c (place q m) x
        turned x (inl same) = inl (sym same)
        turned x (inr before) = inr before

        go : (x : Place) × LeadsTo c x (place p (n + 1)) × ((x ≡ place q m) ⊎ HappenedBefore c (place q m) x)
            → m ≤ max a b
        go (x, inr message, up) = by_send ((sent.first m low high).1 (x, message, turned x up))
        go (x, inl (was, at, same, less), inl here) =
            absurd (other (sym (ap (λ (y : Place). y.process) here) ∙ same))
        go (x, inl (was, at, same, less), inr before) =
            let some : 1 ≤ x.number = was.0 in
            let most : n + 1 ≤ event_count c p = is.1 in
            let event : IsEvent c (place x.process n) =
            subst (λ (r : ℕ). IsEvent c (place r n)) (sym same) (omega arith, omega arith) in
            let later : HappenedBefore c (place q m) (place p n) =
            subst (λ (r : ℕ). HappenedBefore c (place q m) (place r n)) same
            (happens_before_later c (place q m) x n before (omega arith) event) in
            by_own ((own.first m low high).1 ((events_of_happens c (place q m) (place p n) later).1, inr later))

-- of its own process: its number, if it isn't on a cycle
pub own_clock : (c : Computation) (e : Place) → IsEvent c e → (HappenedBefore c e e → ⊥)
    → IsClock c e e.process e.number
own_clock c e is acyclic = record { within = is.1; past = λ m low high. (to m low high, from m low high) }
  where
    to : (m : ℕ) → 1 ≤ m → m ≤ event_count c e.process → m ≤ e.number → IsUpTo c (place e.process m) e
    to m low high le = go (cases_lt m e.number)
      where
        go : (m < e.number) ⊎ (e.number ≤ m) → IsUpTo c (place e.process m) e
        go (inl lt) = inr (step_happens c (place e.process m) e (inl ((low, high), is, refl, lt)))
        go (inr ge) = inl (same_place (place e.process m) e refl (omega arith))

    from : (m : ℕ) → 1 ≤ m → m ≤ event_count c e.process → IsUpTo c (place e.process m) e → m ≤ e.number
    from m low high (inl same) = let n : m ≡ e.number = ap (λ (x : Place). x.number) same in omega arith
    from m low high (inr h) = go (cases_lt e.number m)
      where
        go : (e.number < m) ⊎ (m ≤ e.number) → m ≤ e.number
        go (inr le) = le
        go (inl lt) =
            absurd (acyclic (happens_transitive c e (place e.process m) e
            (step_happens c e (place e.process m) (inl (is, (low, high), refl, lt))) h))

-- what is counted up to an event is counted by its clock, and nothing up to no event
pub own_counted : (c : Computation) (p n q a : ℕ) → IsEvent c (place p n) → IsClock c (place p n) q a
    → CountsWhere c (IsUpToOwn c p n) q a
own_counted c p n q a is clock = record {
  within = clock.within;
  first = λ m low high. (λ le. (is, (clock.past m low high).0 le), λ w. (clock.past m low high).1 w.1);
}

pub none_own : (c : Computation) (p n q : ℕ) → n ≡ 0 → CountsWhere c (IsUpToOwn c p n) q 0
none_own c p n q none = record {
  within = omega arith;
  first = λ m low high. (λ le. absurd (omega arith), λ w. let some : 1 ≤ n = w.0.0 in omega arith);
}

-- likewise of the one send of a receipt, and of no send
pub send_counted : (c : Computation) (e send : Place) (q b : ℕ) → IsMessage c send e
    → ((other : Place) → IsMessage c other e → send ≡ other) → IsClock c send q b → CountsWhere c (IsUpToSend c e) q b
send_counted c e send q b message one clock = record {
  within = clock.within;
  first = λ m low high. (
    λ le. (send, message, (clock.past m low high).0 le),
    λ w. (clock.past m low high).1 (subst (λ (x : Place). IsUpTo c (place q m) x) (sym (one w.0 w.1)) w.2),
  );
}

pub none_sent : (c : Computation) (e : Place) (q : ℕ) → ((send : Place) → IsMessage c send e → ⊥)
    → CountsWhere c (IsUpToSend c e) q 0
none_sent c e q none = record {
  within = omega arith;
  first = λ m low high. (λ le. absurd (omega arith), λ w. absurd (none w.0 w.1));
}

-- an event is in its own clock, as the last of its process
pub own_count : (c : Computation) (e : Place) (n : ℕ) → HasNoCycle c → IsEvent c e → IsClock c e e.process n
    → n ≡ e.number
own_count c e n acyclic is clock = go (cases_lt e.number n)
  where
    low : e.number ≤ n
    low = (clock.past e.number is.0 is.1).1 (inl refl)

    go : (e.number < n) ⊎ (n ≤ e.number) → n ≡ e.number
    go (inr le) = let l : e.number ≤ n = low in omega arith
    go (inl lt) = past ((clock.past n (omega arith) clock.within).0 (omega arith))
      where
        past : IsUpTo c (place e.process n) e → n ≡ e.number
        past (inl same) = ap (λ (f : Place). f.number) same
        past (inr h) =
            let later : IsEvent c (place e.process n) = (omega arith, clock.within) in
            absurd (acyclic e (happens_transitive c e (place e.process n) e
            (step_happens c e (place e.process n) (inl (is, later, refl, lt))) h))

-- an event is in the clock of another exactly if it happened before it
pub in_clock : (c : Computation) (e f : Place) (n : ℕ) → IsEvent c e → IsClock c f e.process n → e ≢ f → (e.number ≤ n)
    ↔ HappenedBefore c e f
in_clock c e f n is clock apart =
    (λ le. up_to ((clock.past e.number is.0 is.1).0 le), λ h. (clock.past e.number is.0 is.1).1 (inr h))
  where
    up_to : IsUpTo c e f → HappenedBefore c e f
    up_to (inl same) = absurd (apart same)
    up_to (inr h) = h
