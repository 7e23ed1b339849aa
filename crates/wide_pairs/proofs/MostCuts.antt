-- The greatest consistent cut in which two processes have some events at most.
use Rattle.std.proofs.Common.{◌≡◌, ℕ, ◌+◌, ◌<◌, ◌≤◌, ◌⊎◌, inl, inr, ◌↔◌, List, length, get_or, refl, sym, subst, arith}
use Rattle.std.proofs.lemmas.Bool.{cases_lt}
use Rattle.def_model.specs.Cuts.{Includes, IsConsistent}
use Rattle.def_model.specs.Events.{Computation, Place, IsEvent, event_count, place}
use Rattle.def_model.specs.Lattice.{IsWithin}
use Rattle.def_model.specs.Order.{HappenedBefore, IsClock, IsUpTo}
use Rattle.def_model.proofs.Chains.{events_of_happens, happens_transitive, step_happens}
use Rattle.def_model.proofs.Consistency.{process_in_range}
use Rattle.def_model.proofs.Counts.{in_range}
use Rattle.wide_pairs.specs.Mosts.{AreMosts, IsEarly, IsMostCount, IsMostWithin}

-- ---- by clocks

event_up_to : (c : Computation) (f e : Place) → IsEvent c e → IsUpTo c f e → IsEvent c f
event_up_to c f e event (inl same) = subst (λ (x : Place). IsEvent c x) (sym same) event
event_up_to c f e event (inr before) = (events_of_happens c f e before).0

pub not_up_to : (c : Computation) (e : Place) (p i m : ℕ) → IsEvent c e → IsClock c e p m → m ≤ i
    → ¬ IsUpTo c (place p (i + 1)) e
not_up_to c e p i m event clock le up =
    let there : IsEvent c (place p (i + 1)) = event_up_to c (place p (i + 1)) e event up in
    let counted : i + 1 ≤ m = (clock.past (i + 1) there.0 there.1).1 up in
    omega arith

pub at_most : (c : Computation) (e : Place) (p i m : ℕ) → IsClock c e p m → ¬ IsUpTo c (place p (i + 1)) e → m ≤ i
at_most c e p i m clock none = go (cases_lt i m)
  where
    go : (i < m) ⊎ (m ≤ i) → m ≤ i
    go (inr le) = le
    go (inl lt) =
        let within : m ≤ event_count c p = clock.within in
        absurd (none ((clock.past (i + 1) (omega arith) (omega arith)).0 (omega arith)))

-- ---- the first events of a process

-- what is up to an event is up to a later one of its process
up_to_later : (c : Computation) (f : Place) (r n m : ℕ) → 1 ≤ n → n ≤ m → m ≤ event_count c r
    → IsUpTo c f (place r n) → IsUpTo c f (place r m)
up_to_later c f r n m some le within up = go (cases_lt n m)
  where
    step : n < m → HappenedBefore c (place r n) (place r m)
    step lt =
        step_happens c (place r n) (place r m) (inl ((some, omega arith), (omega arith, within), refl, lt))

    later : n < m → IsUpTo c f (place r n) → IsUpTo c f (place r m)
    later lt (inl same) = inr (subst (λ (x : Place). HappenedBefore c x (place r m)) (sym same) (step lt))
    later lt (inr before) = inr (happens_transitive c f (place r n) (place r m) before (step lt))

    go : (n < m) ⊎ (m ≤ n) → IsUpTo c f (place r m)
    go (inl lt) = later lt up
    go (inr ge) = let same : n ≡ m = omega arith in subst (λ (k : ℕ). IsUpTo c f (place r k)) same up

pub early_below : (c : Computation) (p q i j r n m : ℕ) → IsEarly c p q i j (place r m) → 1 ≤ n → n ≤ m
    → m ≤ event_count c r → IsEarly c p q i j (place r n)
early_below c p q i j r n m early some le within = (
  λ up. early.0 (up_to_later c (place p (i + 1)) r n m some le within up),
  λ up. early.1 (up_to_later c (place q (j + 1)) r n m some le within up),
)

pub most_count_found : (c : Computation) (p q i j r low : ℕ) → low ≤ event_count c r
    → ((n : ℕ) → 1 ≤ n → n ≤ low → IsEarly c p q i j (place r n))
    → ((n : ℕ) → low < n → n ≤ event_count c r → ¬ IsEarly c p q i j (place r n)) → IsMostCount c p q i j r low
most_count_found c p q i j r low within early late =
    record { within = within; early = λ n some there. (λ le. early n some le, λ e. go n there e (cases_lt low n)) }
  where
    go : (n : ℕ) → n ≤ event_count c r → IsEarly c p q i j (place r n) → (low < n) ⊎ (n ≤ low) → n ≤ low
    go n there e (inl lt) = absurd (late n lt there e)
    go n there e (inr le) = le

-- ---- the cut

-- what happened before an early event is early
early_before : (c : Computation) (p q i j : ℕ) (e f : Place) → HappenedBefore c e f → IsEarly c p q i j f
    → IsEarly c p q i j e
early_before c p q i j e f before early =
    (λ up. early.0 (onward (place p (i + 1)) up), λ up. early.1 (onward (place q (j + 1)) up))
  where
    onward : (a : Place) → IsUpTo c a e → IsUpTo c a f
    onward a (inl same) = inr (subst (λ (x : Place). HappenedBefore c x f) (sym same) before)
    onward a (inr earlier) = inr (happens_transitive c a e f earlier before)

module _ (c : Computation) (p q i j : ℕ) (counts : List ℕ) (there : p < length c) (there_too : q < length c)
    (are : AreMosts c p q i j counts) where
  -- an event is among the counts exactly if it is early
  counted : (e : Place) → IsEvent c e → (e.number ≤ get_or counts e.process 0) ↔ IsEarly c p q i j e
  counted e event =
      (are.each e.process (process_in_range c e event)).early e.number event.0 event.1

  count_within : (r : ℕ) → (0 < get_or counts r 0) ⊎ (get_or counts r 0 ≤ 0) → get_or counts r 0 ≤ event_count c r
  count_within r (inr none) = omega arith
  count_within r (inl has) =
      let many : length counts ≡ length c = are.one_each in
      let lt : r < length counts = in_range counts r has in
      (are.each r (omega arith)).within

  consistent : IsConsistent c counts
  consistent =
      record {
        fits = record {
          one_each = are.one_each;
          within = λ r. count_within r (cases_lt 0 (get_or counts r 0));
        };
        closed = λ e f before has.
            let events : IsEvent c e × IsEvent c f = events_of_happens c e f before in (
              events.0.0,
              (counted e events.0).1 (early_before c p q i j e f before ((counted f events.1).0 has.1)),
            );
      }

  -- the next event of p isn't early, nor that of q
  at_most_i : (get_or counts p 0 ≤ i) ⊎ (i < get_or counts p 0) → get_or counts p 0 ≤ i
  at_most_i (inl le) = le
  at_most_i (inr lt) =
      let within : get_or counts p 0 ≤ event_count c p = (are.each p there).within in
      let early : IsEarly c p q i j (place p (i + 1)) =
      (counted (place p (i + 1)) (omega arith, omega arith)).0 (omega arith) in
      absurd (early.0 (inl refl))

  at_most_j : (get_or counts q 0 ≤ j) ⊎ (j < get_or counts q 0) → get_or counts q 0 ≤ j
  at_most_j (inl le) = le
  at_most_j (inr lt) =
      let within : get_or counts q 0 ≤ event_count c q = (are.each q there_too).within in
      let early : IsEarly c p q i j (place q (j + 1)) =
      (counted (place q (j + 1)) (omega arith, omega arith)).0 (omega arith) in
      absurd (early.1 (inl refl))

  turned : (m n : ℕ) → (n < m) ⊎ (m ≤ n) → (m ≤ n) ⊎ (n < m)
  turned m n (inl lt) = inr lt
  turned m n (inr le) = inl le

  most : (other : List ℕ) → IsConsistent c other → get_or other p 0 ≤ i → get_or other q 0 ≤ j
      → IsWithin other counts
  most other ok at_p at_q r = go (cases_lt 0 (get_or other r 0))
    where
      e : Place
      e = place r (get_or other r 0)

      -- an event of it that another is up to includes that other
      included : 0 < get_or other r 0 → (a : Place) → 1 ≤ a.number → IsUpTo c a e
          → a.number ≤ get_or other a.process 0
      included has a some (inl same) =
          (subst (λ (x : Place). Includes other x) (sym same) (omega arith, omega arith)).1
      included has a some (inr before) = (ok.closed a e before (omega arith, omega arith)).1

      go : (0 < get_or other r 0) ⊎ (get_or other r 0 ≤ 0) → get_or other r 0 ≤ get_or counts r 0
      go (inr none) = omega arith
      go (inl has) =
          (counted e (omega arith, ok.fits.within r)).1 (
            λ up. let more : i + 1 ≤ get_or other p 0 = included has (place p (i + 1)) (omega arith) up in omega arith,
            λ up. let more : j + 1 ≤ get_or other q 0 = included has (place q (j + 1)) (omega arith) up in omega arith,
          )

  pub most_within : IsMostWithin c p q i j counts
  most_within =
      record {
        consistent = consistent;
        first = at_most_i (turned (get_or counts p 0) i (cases_lt i (get_or counts p 0)));
        second = at_most_j (turned (get_or counts q 0) j (cases_lt j (get_or counts q 0)));
        most = most;
      }
