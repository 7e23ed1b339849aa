-- The counts of the free events are those of the greatest cut in which no process has come to a good count.
use Rattle.std.proofs.Common.{◌≡◌, ℕ, ◌+◌, ◌-◌, ◌<◌, ◌≤◌, Bool, true, false, List, [], ◌∷◌, ◌++◌, length, get_or, refl, sym, ap, ◌∙◌, subst, inl, inr, ◌⊎◌, arith}
use Rattle.std.proofs.lemmas.Bool.{cases_lt, false≢true}
use Rattle.std.proofs.lemmas.List.{get_or-append_right, get_or_append_left}
use Rattle.def_model.specs.Events.{Computation, Place, IsEvent, event_count, place}
use Rattle.def_model.specs.Order.{HappenedBefore, IsClock, IsUpTo}
use Rattle.def_model.specs.Cuts.{FitsProcesses, Includes, IsConsistent}
use Rattle.def_model.specs.Lattice.{IsWithin}
use Rattle.def_model.proofs.Chains.{events_of_happens, happens_transitive, same_place, step_happens}
use Rattle.def_model.proofs.Consistency.{process_in_range}
use Rattle.def_model.proofs.Counts.{in_range}
use Rattle.wide_conjunctions.specs.Clauses.{IsBeforeGood, IsGoodAtFirst, IsMostBefore}
use Rattle.wide_conjunctions.specs.Firsts.{AreFirsts, AreFreeCounts, IsFirstGood, IsFree, IsLate}

-- ---- lists with one element more

-- what holds of each element and of one more
pub each_more : (P : ℕ → ℕ → Type 0) (xs : List ℕ) (x : ℕ) → ((i : ℕ) → i < length xs → P i (get_or xs i 0))
    → P (length xs) x → (i : ℕ) → i < length xs + 1 → P i (get_or (xs ++ x ∷ []) i 0)
each_more P xs x before last i lt = go (cases_lt i (length xs))
  where
    go : (i < length xs) ⊎ (length xs ≤ i) → P i (get_or (xs ++ x ∷ []) i 0)
    go (inl low) = subst (P i) (sym (get_or_append_left xs (x ∷ []) 0 i low)) (before i low)
    go (inr high) =
        let same : i ≡ length xs = omega arith in
        let none : i - length xs ≡ 0 = omega arith in
        let end : get_or (xs ++ x ∷ []) i 0 ≡ x =
        get_or-append_right xs (x ∷ []) (length xs) i 0 refl high ∙ ap (λ (n : ℕ). get_or (x ∷ []) n 0) none in
        subst (P i) (sym end) (subst (λ (n : ℕ). P n x) (sym same) last)

-- what holds of each number below q and of q
pub one_more : (P : ℕ → Type 0) (q : ℕ) → ((k : ℕ) → k < q → P k) → P q → (k : ℕ) → k < q + 1 → P k
one_more P q before here k lt = go (cases_lt k q)
  where
    go : (k < q) ⊎ (q ≤ k) → P k
    go (inl low) = before k low
    go (inr high) = let same : k ≡ q = omega arith in subst P (sym same) here

-- ---- happened before

-- what is up to something that happened before an event happened before it
up_to_before : (c : Computation) (d e f : Place) → IsUpTo c d e → HappenedBefore c e f → HappenedBefore c d f
up_to_before c d e f (inl same) before = subst (λ (x : Place). HappenedBefore c x f) (sym same) before
up_to_before c d e f (inr earlier) before = happens_transitive c d e f earlier before

-- an earlier event of the same process happened before what that event happened before
earlier_before : (c : Computation) (e f : Place) (k : ℕ) → 1 ≤ k → k ≤ e.number → HappenedBefore c e f
    → HappenedBefore c (place e.process k) f
earlier_before c e f k low high before = go (cases_lt k e.number)
  where
    event : IsEvent c e
    event = (events_of_happens c e f before).0

    here : IsEvent c (place e.process k)
    here = (low, let most : e.number ≤ event_count c e.process = event.1 in omega arith)

    go : (k < e.number) ⊎ (e.number ≤ k) → HappenedBefore c (place e.process k) f
    go (inl less) =
        happens_transitive c (place e.process k) e f
        (step_happens c (place e.process k) e (inl (here, event, refl, less))) before
    go (inr le) =
        let same : k ≡ e.number = omega arith in
        subst (λ (x : Place). HappenedBefore c x f) (sym (same_place (place e.process k) e refl same)) before

-- ---- the counts

module _ (c : Computation) (good : ℕ → ℕ → Bool) (firsts counts : List ℕ) (are : AreFirsts c good firsts)
    (some : (q : ℕ) → q < length firsts → 0 < get_or firsts q 0) (free : AreFreeCounts c firsts counts) where
  first_at : (q : ℕ) → q < length c → IsFirstGood (good q) (event_count c q) (get_or firsts q 0)
  first_at q lt = are.each q lt

  -- what happened before a free event is free, so no late event is before it
  not_late : (e f : Place) → IsFree c firsts f → IsLate c firsts e → HappenedBefore c e f → ⊥
  not_late e f is_free (q, n, lt, clock, high) before =
      let w : (m : ℕ) × IsClock c f q m × (m < get_or firsts q 0) = is_free q lt in
      let low : w.0 < get_or firsts q 0 = w.2 in
      let there : n ≤ event_count c q = clock.within in
      let up_to : IsUpTo c (place q n) e = (clock.past n (omega arith) there).0 (omega arith) in
      let past : HappenedBefore c (place q n) f = up_to_before c (place q n) e f up_to before in
      let counted : n ≤ w.0 = (w.1.past n (omega arith) there).1 (inr past) in
      omega arith

  pub most_consistent : IsConsistent c counts
  most_consistent = record { fits = fits; closed = closed }
    where
      fits : FitsProcesses c counts
      fits = record { one_each = free.one_each; within = λ p. within p (cases_lt 0 (get_or counts p 0)) }
        where
          within : (p : ℕ) → (0 < get_or counts p 0) ⊎ (get_or counts p 0 ≤ 0) → get_or counts p 0 ≤ event_count c p
          within p (inr none) = omega arith
          within p (inl has) =
              let many : length counts ≡ length c = free.one_each in
              let lt : p < length counts = in_range counts p has in
              (free.each p (omega arith)).within

      closed : (e f : Place) → HappenedBefore c e f → Includes counts f → Includes counts e
      closed e f before (low, high) = (event.0, go (cases_lt (get_or counts e.process 0) e.number))
        where
          event : IsEvent c e
          event = (events_of_happens c e f before).0

          many : length counts ≡ length c
          many = free.one_each

          f_free : IsFree c firsts f
          f_free =
              let lt : f.process < length counts = in_range counts f.process (omega arith) in
              (free.each f.process (omega arith)).free f.number low high

          go : (get_or counts e.process 0 < e.number) ⊎ (e.number ≤ get_or counts e.process 0)
              → e.number ≤ get_or counts e.process 0
          go (inr le) = le
          go (inl less) =
              let lt : e.process < length c = process_in_range c e event in
              let most : e.number ≤ event_count c e.process = event.1 in
              absurd (not_late (place e.process (get_or counts e.process 0 + 1)) f f_free
              ((free.each e.process lt).next (omega arith))
              (earlier_before c e f (get_or counts e.process 0 + 1) (omega arith) (omega arith) before))

  pub most_is_before : IsBeforeGood good counts
  most_is_before p n lt le = go (cases_lt 0 n)
    where
      many : length counts ≡ length c
      many = free.one_each

      there : p < length c
      there = omega (arith, many, lt)

      go : (0 < n) ⊎ (n ≤ 0) → good p n ≡ false
      go (inr none) =
          let pos : 0 < get_or firsts p 0 =
          some p (let same : length firsts ≡ length c = are.one_each in omega (arith, there)) in
          (first_at p there).below n (omega arith)
      go (inl has) =
          let w : (m : ℕ) × IsClock c (place p n) p m × (m < get_or firsts p 0) =
          (free.each p there).free n has le p there in
          let within : get_or counts p 0 ≤ event_count c p = (free.each p there).within in
          let self : n ≤ w.0 = (w.1.past n has (omega arith)).1 (inl refl) in
          let low : w.0 < get_or firsts p 0 = w.2 in
          (first_at p there).below n (omega arith)

  pub most_is_most : (other : List ℕ) → IsConsistent c other → IsBeforeGood good other → IsWithin other counts
  most_is_most other ok before p = go (cases_lt (get_or counts p 0) (get_or other p 0))
    where
      go : (get_or counts p 0 < get_or other p 0) ⊎ (get_or other p 0 ≤ get_or counts p 0)
          → get_or other p 0 ≤ get_or counts p 0
      go (inr le) = le
      go (inl less) = absurd (false≢true (sym not_there ∙ is_there))
        where
          many : length other ≡ length c
          many = ok.fits.one_each

          there : p < length c
          there = let lt : p < length other = in_range other p (omega arith) in omega (arith, many)

          e : Place
          e = place p (get_or counts p 0 + 1)

          late : IsLate c firsts e
          late =
              (free.each p there).next
              (let most : get_or other p 0 ≤ event_count c p = ok.fits.within p in omega arith)

          q : ℕ
          q = late.0

          first : IsFirstGood (good q) (event_count c q) (get_or firsts q 0)
          first = first_at q late.2

          pos : 0 < get_or firsts q 0
          pos = some q (let same : length firsts ≡ length c = are.one_each in
              let lt : late.0 < length c = late.2 in omega arith)

          last : get_or firsts q 0 ≤ event_count c q
          last =
              let high : get_or firsts late.0 0 ≤ late.1 = late.4 in
              let within : late.1 ≤ event_count c late.0 = late.3.within in
              omega arith

          up_to : IsUpTo c (place q (get_or firsts q 0)) e
          up_to = (late.3.past (get_or firsts q 0) pos last).0 late.4

          has : Includes other e
          has = (omega arith, omega arith)

          included : IsUpTo c (place q (get_or firsts q 0)) e → get_or firsts q 0 ≤ get_or other q 0
          included (inl same) = (subst (λ (x : Place). Includes other x) (sym same) has).1
          included (inr earlier) = (ok.closed (place q (get_or firsts q 0)) e earlier has).1

          is_there : good q (get_or firsts q 0) ≡ true
          is_there = first.here last

          not_there : good q (get_or firsts q 0) ≡ false
          not_there =
              before q (get_or firsts q 0) (let lt : late.0 < length c = late.2 in omega (arith, many)) (included up_to)

  pub is_most_before : IsMostBefore c good counts
  is_most_before = record { consistent = most_consistent; before = most_is_before; most = most_is_most }

-- a first good count that is 0 is one before the first event
pub good_at_first : (c : Computation) (good : ℕ → ℕ → Bool) (firsts : List ℕ) → AreFirsts c good firsts
    → ((q : ℕ) × (q < length firsts) × (get_or firsts q 0 ≡ 0)) → IsGoodAtFirst c good
good_at_first c good firsts are (q, lt, zero_there) =
    let same : length firsts ≡ length c = are.one_each in
    let there : q < length c = omega arith in (
      q,
      there,
      subst (λ (n : ℕ). good q n ≡ true) zero_there ((are.each q there).here (omega (arith, zero_there))),
    )
