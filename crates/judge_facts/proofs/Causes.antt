-- By the clock of a process's last event it is known whether another process leads to it.
use Rattle.std.proofs.Common.{◌≡◌, ◌≢◌, ℕ, length, ◌+◌, ◌<◌, ◌≤◌, ◌⊎◌, inl, inr, refl, ap, subst, arith}
use Rattle.def_model.specs.Events.{Computation, Place, place, event_count}
use Rattle.def_model.specs.Order.{HappenedBefore, IsClock, IsUpTo}
use Rattle.def_model.proofs.Chains.{events_of_happens, happens_before_later}
use Rattle.def_model.proofs.Consistency.{process_in_range}
use Rattle.std.proofs.lemmas.Bool.{cases_lt}
use Rattle.judge_facts.specs.Links.{LeadsTo}

-- the first event of p is in the past of q's last one
pub cause_from_clock : (c : Computation) (p q n m : ℕ) → p ≢ q → IsClock c (place q m) p n → 0 < n → LeadsTo c p q
cause_from_clock c p q n m differ clock some =
    go ((clock.past 1 (omega arith) (omega (arith, clock.within, some))).0 (omega (arith, some)))
  where
    go : IsUpTo c (place p 1) (place q m) → LeadsTo c p q
    go (inl same) = absurd (differ (ap (λ (e : Place). e.process) same))
    go (inr before) = record {
      cause = place p 1;
      effect = place q m;
      of_first = refl;
      of_second = refl;
      before = before;
    }

moved : (c : Computation) (p q : ℕ) (h : LeadsTo c p q)
    → HappenedBefore c (place p h.cause.number) (place q h.effect.number)
moved c p q h =
    subst (λ f. HappenedBefore c (place p h.cause.number) f) (ap (λ r. place r h.effect.number) h.of_second)
    (subst (λ e. HappenedBefore c e h.effect) (ap (λ r. place r h.cause.number) h.of_first) h.before)

-- what happened before some event of q happened before its last one
pub clock_from_cause : (c : Computation) (p q n m : ℕ) → m ≡ event_count c q → IsClock c (place q m) p n
    → LeadsTo c p q → 0 < n
clock_from_cause c p q n m all clock h =
    let before = moved c p q h in
    let are = events_of_happens c (place p h.cause.number) (place q h.effect.number) before in
    let last = happens_before_later c (place p h.cause.number) (place q h.effect.number) m before
    (omega (arith, are.1.1, all)) (omega (arith, are.1.0, are.1.1, all), omega (arith, all)) in
    let within = (clock.past h.cause.number are.0.0 are.0.1).1 (inr last) in
    omega (arith, within, are.0.0)

-- a process without events is led to by none
pub no_cause : (c : Computation) (p q : ℕ) → event_count c q ≡ 0 → LeadsTo c p q → ⊥
no_cause c p q none h =
    let are = events_of_happens c (place p h.cause.number) (place q h.effect.number) (moved c p q h) in
    absurd (omega (arith, are.1.0, are.1.1, none))

-- a process to which another one leads is one of the processes
pub process_led_to : (c : Computation) (p q : ℕ) → LeadsTo c p q → q < length c
process_led_to c p q h =
    process_in_range c (place q h.effect.number)
    (events_of_happens c (place p h.cause.number) (place q h.effect.number) (moved c p q h)).1

-- what holds of none below n and not of n
pub none_below_next : (P : ℕ → Type 0) (n : ℕ) → ((q : ℕ) → q < n → P q → ⊥) → (P n → ⊥) → (q : ℕ) → q < n + 1
    → P q → ⊥
none_below_next P n before here q below holds = go (cases_lt q n)
  where
    go : (q < n) ⊎ (n ≤ q) → ⊥
    go (inl lt) = before q lt holds
    go (inr le) = here (subst P (omega (arith, le, below)) holds)
