-- Which counts are consistent, and what happened before what, by the clocks of all events.
use Rattle.std.proofs.Common.{◌≡◌, ◌≢◌, ℕ, ◌+◌, ◌-◌, ◌*◌, ◌<◌, ◌≤◌, List, [], length, get_or, cond, true, false, not, ◌&&◌, refl, sym, ap, ◌∙◌, inl, inr, ◌⊎◌, ◌↔◌, arith}
use Rattle.std.specs.Prelude.{nat_eq, nat_lt, Vec}
use Rattle.std.specs.Global.{Global}
use Rattle.std.proofs.lemmas.Bool.{cases_eq, cases_lt, lt-ltb, le-ltb, false≢true}
use Rattle.std.proofs.lemmas.Bool.Decides.{eqb_tells}
use Rattle.std.proofs.lemmas.List.{get_or_past, get_or_read}
use Rattle.std.proofs.lemmas.Nat.{mul-add-lt}
use Rattle.std.proofs.Math.Nat.{mul-le-mul_right}
use Rattle.def_model.specs.Events.{Computation, Place, place, IsEvent, event_count}
use Rattle.def_model.specs.Order.{HasNoCycle, IsClock}
use Rattle.def_model.specs.Cuts.{FitsProcesses, IsConsistent, full_cut}
use Rattle.def_model.proofs.Chains.{same_place}
use Rattle.def_model.proofs.ClockLemmas.{clocks_decide}
use Rattle.def_model.proofs.Consistency.{process_in_range}
use Rattle.def_model.proofs.Counts.{full_at}
use Rattle.def_model.proofs.Stuck.{none_stuck}
use Rattle.def_model.proofs.ClockSteps.{own_count}
use Rattle.pd_clock.specs.Orders.{HasClocks, LeavesStuck, clock_at, clocks_in, clocks_of}
use Rattle.pd_clock.specs.Pasts.{HasPast, HasPasts, Reach}
use Rattle.pd_clock.proofs.Parts.{got}

-- places are equal exactly if the test of their parts says so
pub apart_from_test : (e f : Place) → not (nat_eq e.process f.process && nat_eq e.number f.number) ≡ true → e ≢ f
apart_from_test e f test same = go (eqb_tells e.process f.process) (eqb_tells e.number f.number)
  where
    go : ((nat_eq e.process f.process ≡ true) × (e.process ≡ f.process))
        ⊎ ((nat_eq e.process f.process ≡ false) × (e.process ≢ f.process))
        → ((nat_eq e.number f.number ≡ true) × (e.number ≡ f.number))
        ⊎ ((nat_eq e.number f.number ≡ false) × (e.number ≢ f.number)) → ⊥
    go (inr (fails, apart)) b = apart (ap (λ (x : Place). x.process) same)
    go (inl a) (inr (fails, apart)) = apart (ap (λ (x : Place). x.number) same)
    go (inl (passes, is)) (inl (too, also)) = false≢true (rw (passes, too) at test)

pub same_from_test : (e f : Place) → not (nat_eq e.process f.process && nat_eq e.number f.number) ≡ false → e ≡ f
same_from_test e f test = go (eqb_tells e.process f.process) (eqb_tells e.number f.number)
  where
    go : ((nat_eq e.process f.process ≡ true) × (e.process ≡ f.process))
        ⊎ ((nat_eq e.process f.process ≡ false) × (e.process ≢ f.process))
        → ((nat_eq e.number f.number ≡ true) × (e.number ≡ f.number))
        ⊎ ((nat_eq e.number f.number ≡ false) × (e.number ≢ f.number)) → e ≡ f
    go (inr (fails, apart)) b = absurd (false≢true (sym (rw fails at test)))
    go (inl (passes, is)) (inr (fails, apart)) = absurd (false≢true (sym (rw (passes, fails) at test)))
    go (inl (passes, is)) (inl (too, also)) = same_place e f is also

-- where no event is stuck all are in the order
pub all_done : (c : Computation) (done : List ℕ) → HasNoCycle c → LeavesStuck c done → (p : ℕ)
    → get_or done p 0 ≡ event_count c p
all_done c done acyclic leaves p = go (cases_lt (get_or done p 0) (event_count c p))
  where
    go : (get_or done p 0 < event_count c p) ⊎ (event_count c p ≤ get_or done p 0) → get_or done p 0 ≡ event_count c p
    go (inr le) = let within : get_or done p 0 ≤ event_count c p = leaves.within p in omega arith
    go (inl lt) =
        let last : IsEvent c (place p (event_count c p)) = (omega arith, omega arith) in
        absurd ((none_stuck c).0 acyclic (place p (event_count c p))
        ((leaves.left (place p (event_count c p)) last).0 lt))

-- so the clocks are those of all events
pub all_clocks : (c : Computation) (done : List ℕ) (clocks : List (Vec ℕ Global)) → HasNoCycle c → LeavesStuck c done
    → HasClocks c done clocks → HasClocks c (full_cut c) clocks
all_clocks c done clocks acyclic leaves has =
    record {
      one_each = has.one_each;
      rows = λ p lt. rw (full_at c p, ← all_done c done acyclic leaves p) (has.rows p lt);
      right = λ e q is le lt. has.right e q is (rw (all_done c done acyclic leaves e.process) is.1) lt;
    }

module _ (c : Computation) (clocks : List (Vec ℕ Global)) (acyclic : HasNoCycle c)
    (has : HasClocks c (full_cut c) clocks) where
  -- how long a row is
  pub row_length : (p : ℕ) → p < length c → length (clocks_of clocks p) ≡ event_count c p * length c
  row_length p lt = has.rows p lt ∙ ap (λ (n : ℕ). n * length c) (full_at c p)

  pub is_clock : (e : Place) (q : ℕ) → IsEvent c e → q < length c → IsClock c e q (clock_at (length c) clocks e q)
  is_clock e q is lt = has.right e q is (rw (full_at c e.process) is.1) lt

  -- the row of a process, and the number that is read there
  pub row_read : (p : ℕ) (row : Vec ℕ Global) → p < length c → row ≡ get_or clocks p row
      → clocks_of clocks p ≡ row.items
  row_read p row lt is = ap clocks_in (got clocks p row (omega (arith, has.one_each)) is)

  pub place_in_row : (e : Place) (q : ℕ) (row : Vec ℕ Global) → IsEvent c e → q < length c
      → row ≡ get_or clocks e.process row → (e.number - 1) * length c + q < length row.items
  place_in_row e q row is lt read =
      let p : e.process < length c = process_in_range c e is in
      let l : length row.items ≡ event_count c e.process * length c = ap length (sym (row_read e.process row p read))
      ∙ row_length e.process p in
      rw l (let k : (e.number - 1) < event_count c e.process = omega (arith, is.0, is.1) in
      let m : (e.number - 1) * length c + q < length c * event_count c e.process =
      mul-add-lt (e.number - 1) (length c) q (event_count c e.process) k lt in
      omega arith)

  pub clock_read : (e : Place) (q : ℕ) (row : Vec ℕ Global) (n : ℕ) → IsEvent c e → q < length c
      → row ≡ get_or clocks e.process row → n ≡ get_or row.items ((e.number - 1) * length c + q) n → IsClock c e q n
  clock_read e q row n is lt read at =
      let p : e.process < length c = process_in_range c e is in
      let there : (e.number - 1) * length c + q < length row.items = place_in_row e q row is lt read in
      let known : n ≡ clock_at (length c) clocks e q =
      get_or_read row.items ((e.number - 1) * length c + q) n there at 0
      ∙ ap (λ (all : List ℕ). get_or all ((e.number - 1) * length c + q) 0) (sym (row_read e.process row p read)) in
      rw known (is_clock e q is lt)

  -- the clock that is looked up, and 0 where there is no such process
  known : Place → ℕ → ℕ
  known e q = cond (nat_lt q (length c)) (clock_at (length c) clocks e q) 0

  known_within : (e : Place) (q : ℕ) → q < length c → known e q ≡ clock_at (length c) clocks e q
  unfolding known
  known_within e q lt = rw (lt-ltb q (length c) lt) refl

  known_past : (e : Place) (q : ℕ) → length c ≤ q → known e q ≡ 0
  unfolding known
  known_past e q le = rw (le-ltb q (length c) le) refl

  known_right : (e : Place) (q : ℕ) → IsEvent c e → IsClock c e q (known e q)
  known_right e q is = go (cases_lt q (length c))
    where
      go : (q < length c) ⊎ (length c ≤ q) → IsClock c e q (known e q)
      go (inl lt) = rw (known_within e q lt) (is_clock e q is lt)
      go (inr le) =
          let none : event_count c q ≡ 0 = ap length (get_or_past c q [] le) in
          rw (known_past e q le) (record { within = omega arith; past = λ m low high. absurd (omega arith) })

  -- the counts of all but one process are decided by the clock of its last counted event
  own : (p n : ℕ) → IsEvent c (place p n) → known (place p n) p ≡ n
  own p n is = own_count c (place p n) (known (place p n) p) acyclic is (known_right (place p n) p is)

  last_is : (counts : List ℕ) (p : ℕ) → FitsProcesses c counts → 0 < get_or counts p 0
      → IsEvent c (place p (get_or counts p 0))
  last_is counts p fits some = let w : get_or counts p 0 ≤ event_count c p = fits.within p in (omega arith, w)

  -- what the test on a row says in the words of the law
  below_from_past : (counts : List ℕ) (p n : ℕ) → FitsProcesses c counts → HasPast (clocks_of clocks p) n counts p
      → (q : ℕ) → q ≢ p → known (place p n) q ≤ get_or counts q 0
  below_from_past counts p n fits past q apart = go (cases_lt q (length c))
    where
      go : (q < length c) ⊎ (length c ≤ q) → known (place p n) q ≤ get_or counts q 0
      go (inr le) = let z : known (place p n) q ≡ 0 = known_past (place p n) q le in omega arith
      go (inl lt) =
          let at : known (place p n) q ≡ clock_at (length c) clocks (place p n) q = known_within (place p n) q lt in
          rw at (rw fits.one_each at (past q (omega (arith, fits.one_each)) apart))

  past_from_below : (counts : List ℕ) (p n : ℕ) → FitsProcesses c counts
      → ((q : ℕ) → q ≢ p → known (place p n) q ≤ get_or counts q 0) → HasPast (clocks_of clocks p) n counts p
  past_from_below counts p n fits below q lt apart =
      let within : q < length c = omega (arith, fits.one_each) in
      rw fits.one_each (rw (known_within (place p n) q within) at (below q apart))

  pub consistent_exactly : (counts : List ℕ) → FitsProcesses c counts → HasPasts clocks counts ↔ IsConsistent c counts
  consistent_exactly counts fits = (to, from)
    where
      law : IsConsistent c counts ↔ ((p q : ℕ) → 0 < get_or counts p 0
          → known (place p (get_or counts p 0)) q ≤ get_or counts q 0)
      law = clocks_decide c known known_right counts fits

      to : HasPasts clocks counts → IsConsistent c counts
      to pasts = law.1 each
        where
          each : (p q : ℕ) → 0 < get_or counts p 0 → known (place p (get_or counts p 0)) q ≤ get_or counts q 0
          each p q some = go (cases_eq q p)
            where
              go : (q ≡ p) ⊎ (q ≡ p → ⊥) → known (place p (get_or counts p 0)) q ≤ get_or counts q 0
              go (inr apart) = below_from_past counts p (get_or counts p 0) fits (pasts p some) q apart
              go (inl same) = rw same (let k : known (place p (get_or counts p 0)) p ≡ get_or counts p 0 =
                  own p (get_or counts p 0) (last_is counts p fits some) in omega arith)

      from : IsConsistent c counts → HasPasts clocks counts
      from ok p some = past_from_below counts p (get_or counts p 0) fits (λ q apart. law.0 ok p q some)

  -- the clocks reach as far as counts that fit
  pub reaches : (counts : List ℕ) → FitsProcesses c counts → Reach clocks counts
  reaches counts fits = record { one_each = has.one_each ∙ sym fits.one_each; rows = λ p. go p (cases_lt p (length c)) }
    where
      go : (p : ℕ) → (p < length c) ⊎ (length c ≤ p) → get_or counts p 0 * length counts ≤ length (clocks_of clocks p)
      go p (inl lt) = rw (row_length p lt, fits.one_each) (mul-le-mul_right (length c) (fits.within p))
      go p (inr le) = let z : get_or counts p 0 ≡ 0 = get_or_past counts p 0 (omega (arith, fits.one_each)) in
          rw z (omega arith)
