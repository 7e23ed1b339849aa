-- From a consistent cut that isn't empty an event can be undone, and to one that isn't full an event can be added.
use Rattle.std.proofs.Common.{◌≡◌, ℕ, suc, ◌+◌, ◌<◌, ◌≤◌, List, length, get_or, sum, sym, ap, ◌∙◌, subst, inl, inr, ◌⊎◌, arith}
use Rattle.std.proofs.lemmas.Bool.{cases_eq, cases_lt}
use Rattle.def_model.specs.Events.{Computation, Place, place, event_count}
use Rattle.def_model.specs.Order.{HappenedBefore, HasNoCycle}
use Rattle.def_model.specs.Cuts.{Includes, FitsProcesses, IsConsistent, one_more, one_less, empty_cut, full_cut, total}
use Rattle.def_model.proofs.Decisions.{dec_both, dec_less, dec_some, extreme}
use Rattle.def_model.proofs.Counts.{in_range, length_more, length_less, more_same, more_other, less_same, less_other, less_le, some_count, same_or_below, full_at, length_full, length_empty, empty_at, sum_le, same_from_sum}
use Rattle.def_model.proofs.Chains.{same_place, happens_transitive, events_of_happens, happens_before_later, happens_from_earlier}
use Rattle.def_model.proofs.Consistency.{dec_consistent, process_in_range}

-- fewer events of one process fit
pub fits_less : (c : Computation) (cut : List ℕ) (p : ℕ) → FitsProcesses c cut → 0 < get_or cut p 0
    → FitsProcesses c (one_less cut p)
fits_less c cut p f h =
    record {
      one_each = length_less cut p ∙ f.one_each;
      within = λ q. let a : get_or (one_less cut p) q 0 ≤ get_or cut q 0 = less_le cut p q h in
          let b : get_or cut q 0 ≤ event_count c q = f.within q in omega arith;
    }

pub fits_more : (c : Computation) (cut : List ℕ) (p : ℕ) → FitsProcesses c cut → get_or cut p 0 < event_count c p
    → p < length cut → FitsProcesses c (one_more cut p)
fits_more c cut p f h lt =
    record { one_each = length_more cut p ∙ f.one_each; within = λ q. pick q (cases_eq q p) }
  where
    pick : (q : ℕ) → (q ≡ p) ⊎ (q ≡ p → ⊥) → get_or (one_more cut p) q 0 ≤ event_count c q
    pick q (inl e) = rw e (let t : get_or (one_more cut p) p 0 ≡ get_or cut p 0 + 1 = more_same cut p lt in omega arith)
    pick q (inr n) = let t : get_or (one_more cut p) q 0 ≡ get_or cut q 0 = more_other cut p q n in
        let u : get_or cut q 0 ≤ event_count c q = f.within q in omega arith

module _ (c : Computation) (acyclic : HasNoCycle c) (cut : List ℕ) (ok : IsConsistent c cut) where
  -- the last event of a process in the cut
  last_in : ℕ → Place
  last_in p = place p (get_or cut p 0)

  -- undone, if it happened before no other last event
  undo_extreme : (m : ℕ) → 0 < get_or cut m 0
      → ((q : ℕ) → q < length cut → 0 < get_or cut q 0
      → ¬ HappenedBefore c (place m (get_or cut m 0)) (place q (get_or cut q 0))) → IsConsistent c (one_less cut m)
  undo_extreme m has none = record { fits = fits_less c cut m ok.fits has; closed = closed }
    where
      closed : (e f : Place) → HappenedBefore c e f → Includes (one_less cut m) f → Includes (one_less cut m) e
      closed e f h i =
          let down : get_or (one_less cut m) f.process 0 ≤ get_or cut f.process 0 = less_le cut m f.process has in
          let low : 1 ≤ f.number = i.0 in
          let high : f.number ≤ get_or (one_less cut m) f.process 0 = i.1 in
          let top : f.number ≤ get_or cut f.process 0 = omega arith in
          let j : Includes cut e = ok.closed e f h (low, top) in
          (j.0, pick j top low (cases_eq e.process m))
        where
          pick : Includes cut e → f.number ≤ get_or cut f.process 0 → 1 ≤ f.number → (e.process ≡ m)
              ⊎ (e.process ≡ m → ⊥) → e.number ≤ get_or (one_less cut m) e.process 0
          pick j top low (inr apart) =
              let t : get_or (one_less cut m) e.process 0 ≡ get_or cut e.process 0 = less_other cut m e.process apart in
              let u : e.number ≤ get_or cut e.process 0 = j.1 in
              omega arith
          pick j top low (inl same) = last_or_not (cases_lt e.number (get_or cut e.process 0))
            where
              last_or_not : (e.number < get_or cut e.process 0) ⊎ (get_or cut e.process 0 ≤ e.number)
                  → e.number ≤ get_or (one_less cut m) e.process 0
              last_or_not (inl lt) =
                  let t : get_or (one_less cut m) m 0 + 1 ≡ get_or cut m 0 = less_same cut m has in
                  let s : get_or (one_less cut m) e.process 0 ≡ get_or (one_less cut m) m 0 =
                  ap (λ (p : ℕ). get_or (one_less cut m) p 0) same in
                  let u : get_or cut e.process 0 ≡ get_or cut m 0 = ap (λ (p : ℕ). get_or cut p 0) same in
                  omega arith
              last_or_not (inr ge) =
                  let u : get_or cut e.process 0 ≡ get_or cut m 0 = ap (λ (p : ℕ). get_or cut p 0) same in
                  let v : e.number ≤ get_or cut e.process 0 = j.1 in
                  let w : e.number ≡ get_or cut m 0 = omega arith in
                  let is_last : e ≡ place m (get_or cut m 0) = same_place e (place m (get_or cut m 0)) same w in
                  let q_has : 0 < get_or cut f.process 0 = omega arith in
                  let within : get_or cut f.process 0 ≤ event_count c f.process = ok.fits.within f.process in
                  let later : HappenedBefore c e (place f.process (get_or cut f.process 0)) =
                  happens_before_later c e f (get_or cut f.process 0) h top (omega arith, omega arith) in
                  absurd (none f.process (in_range cut f.process q_has) q_has
                  (subst (λ (g : Place). HappenedBefore c g (place f.process (get_or cut f.process 0))) is_last
                  later))

  pub can_undo : 0 < sum cut → (p : ℕ) × (0 < get_or cut p 0) × IsConsistent c (one_less cut p)
  can_undo some =
      go (dec_some (λ p. (0 < get_or cut p 0) × IsConsistent c (one_less cut p))
      (λ p. dec_both (dec_less 0 (get_or cut p 0)) (dec_consistent c (one_less cut p))) (length cut))
    where
      go : Dec ((p : ℕ) × (p < length cut) × ((0 < get_or cut p 0) × IsConsistent c (one_less cut p)))
          → (p : ℕ) × (0 < get_or cut p 0) × IsConsistent c (one_less cut p)
      go (yes (p, lt, w)) = (p, w.0, w.1)
      go (no h) =
          absurd (extreme (λ p q. HappenedBefore c (place p (get_or cut p 0)) (place q (get_or cut q 0)))
          (λ p. 0 < get_or cut p 0) (λ p. acyclic (place p (get_or cut p 0))) (λ p q r.
          happens_transitive c (place p (get_or cut p 0)) (place q (get_or cut q 0)) (place r (get_or cut r 0)))
          (length cut) (some_count cut some).0 (some_count cut some).2
          (λ w. h (w.0, in_range cut w.0 w.1, (w.1, undo_extreme w.0 w.1 w.2))))

  -- added, if no other next event happened before it
  add_extreme : (m : ℕ) → m < length cut → get_or cut m 0 < event_count c m
      → ((q : ℕ) → q < length cut → get_or cut q 0 < event_count c q
      → ¬ HappenedBefore c (place q (suc (get_or cut q 0))) (place m (suc (get_or cut m 0))))
      → IsConsistent c (one_more cut m)
  add_extreme m lt room none = record { fits = fits_more c cut m ok.fits room lt; closed = closed }
    where
      up : (q : ℕ) → get_or cut q 0 ≤ get_or (one_more cut m) q 0
      up q = pick (cases_eq q m)
        where
          pick : (q ≡ m) ⊎ (q ≡ m → ⊥) → get_or cut q 0 ≤ get_or (one_more cut m) q 0
          pick (inl e) = rw e (let t : get_or (one_more cut m) m 0 ≡ get_or cut m 0 + 1 = more_same cut m lt in
              omega arith)
          pick (inr n) = let t : get_or (one_more cut m) q 0 ≡ get_or cut q 0 = more_other cut m q n in omega arith

      closed : (e f : Place) → HappenedBefore c e f → Includes (one_more cut m) f → Includes (one_more cut m) e
      closed e f h i = was_in (cases_lt (get_or cut f.process 0) f.number)
        where
          was_in : (get_or cut f.process 0 < f.number) ⊎ (f.number ≤ get_or cut f.process 0)
              → Includes (one_more cut m) e
          was_in (inr old) =
              let j : Includes cut e = ok.closed e f h (i.0, old) in
              let a : e.number ≤ get_or cut e.process 0 = j.1 in
              let b : get_or cut e.process 0 ≤ get_or (one_more cut m) e.process 0 = up e.process in
              (j.0, omega arith)
          was_in (inl new) = (low, e_in (cases_lt (get_or cut e.process 0) e.number))
            where
              low : 1 ≤ e.number
              low = ((events_of_happens c e f h).0).0

              there : e.number ≤ event_count c e.process
              there = ((events_of_happens c e f h).0).1

              -- f is the event that was added
              f_is : (f.process ≡ m) × (f.number ≡ suc (get_or cut m 0))
              f_is = pick (cases_eq f.process m)
                where
                  pick : (f.process ≡ m) ⊎ (f.process ≡ m → ⊥) → (f.process ≡ m) × (f.number ≡ suc (get_or cut m 0))
                  pick (inr apart) =
                      let t : get_or (one_more cut m) f.process 0 ≡ get_or cut f.process 0 =
                      more_other cut m f.process apart in
                      let u : f.number ≤ get_or (one_more cut m) f.process 0 = i.1 in
                      absurd (omega arith)
                  pick (inl same) =
                      let t : get_or (one_more cut m) m 0 ≡ get_or cut m 0 + 1 = more_same cut m lt in
                      let s : get_or (one_more cut m) f.process 0 ≡ get_or (one_more cut m) m 0 =
                      ap (λ (p : ℕ). get_or (one_more cut m) p 0) same in
                      let v : get_or cut f.process 0 ≡ get_or cut m 0 = ap (λ (p : ℕ). get_or cut p 0) same in
                      let u : f.number ≤ get_or (one_more cut m) f.process 0 = i.1 in
                      (same, omega arith)

              e_in : (get_or cut e.process 0 < e.number) ⊎ (e.number ≤ get_or cut e.process 0)
                  → e.number ≤ get_or (one_more cut m) e.process 0
              e_in (inr old) = let b : get_or cut e.process 0 ≤ get_or (one_more cut m) e.process 0 =
                  up e.process in omega arith
              e_in (inl out) =
                  let in_c : e.process < length c = process_in_range c e (low, there) in
                  let l : length cut ≡ length c = ok.fits.one_each in
                  let high : e.number ≤ event_count c e.process = there in
                  let next_is : suc (get_or cut e.process 0) ≤ event_count c e.process = omega arith in
                  let room : get_or cut e.process 0 < event_count c e.process = omega arith in
                  let earlier : HappenedBefore c (place e.process (suc (get_or cut e.process 0))) f =
                  happens_from_earlier c e f (suc (get_or cut e.process 0)) h out (omega arith, next_is) in
                  let added : f ≡ place m (suc (get_or cut m 0)) =
                  same_place f (place m (suc (get_or cut m 0))) f_is.0 f_is.1 in
                  absurd (none e.process (omega arith) room
                  (subst (λ (g : Place). HappenedBefore c (place e.process (suc (get_or cut e.process 0))) g) added
                  earlier))

  pub can_add : sum cut < total c → (p : ℕ) × (p < length cut) × IsConsistent c (one_more cut p)
  can_add room =
      go (dec_some (λ p. IsConsistent c (one_more cut p)) (λ p. dec_consistent c (one_more cut p)) (length cut))
    where
      below : (p : ℕ) → get_or cut p 0 ≤ get_or (full_cut c) p 0
      below p = rw full_at (ok.fits.within p)

      start : (cut ≡ full_cut c) ⊎ ((p : ℕ) × (p < length cut) × (get_or cut p 0 < get_or (full_cut c) p 0))
          → (p : ℕ) × (p < length cut) × (get_or cut p 0 < event_count c p)
      start (inl e) = let t : sum cut ≡ total c = ap sum e in absurd (omega arith)
      start (inr (p, lt, less)) = (p, lt, subst (λ (n : ℕ). get_or cut p 0 < n) (full_at c p) less)

      go : Dec ((p : ℕ) × (p < length cut) × IsConsistent c (one_more cut p)) → (p : ℕ) × (p < length cut)
          × IsConsistent c (one_more cut p)
      go (yes w) = w
      go (no h) =
          let s : (p : ℕ) × (p < length cut) × (get_or cut p 0 < event_count c p) =
          start (same_or_below cut (full_cut c) (ok.fits.one_each ∙ sym (length_full c)) below) in
          absurd (extreme (λ p q. HappenedBefore c (place q (suc (get_or cut q 0))) (place p (suc (get_or cut p 0))))
          (λ p. (p < length cut) × (get_or cut p 0 < event_count c p))
          (λ p. acyclic (place p (suc (get_or cut p 0)))) (λ p q r a b.
          happens_transitive c (place r (suc (get_or cut r 0))) (place q (suc (get_or cut q 0)))
          (place p (suc (get_or cut p 0))) b a) (length cut) s.0 (
            s.1,
            s.2,
          ) (λ w. h (w.0, w.1.0, add_extreme w.0 w.1.0 w.1.1 (λ q lt r. w.2 q lt (lt, r)))))

-- the empty cut is consistent
pub empty_consistent : (c : Computation) → IsConsistent c (empty_cut c)
empty_consistent c =
    record {
      fits = record { one_each = length_empty c; within = λ p. rw empty_at (omega arith) };
      closed = λ e f h i. let a : 1 ≤ f.number = i.0 in let b : f.number ≤ get_or (empty_cut c) f.process 0 =
          i.1 in let z : get_or (empty_cut c) f.process 0 ≡ 0 = empty_at c f.process in absurd (omega arith);
    }

-- a consistent cut has no more events than there are, and is full if it has all
pub sum_within : (c : Computation) (cut : List ℕ) → IsConsistent c cut → sum cut ≤ total c
sum_within c cut ok =
    sum_le cut (full_cut c) (λ p. rw full_at (ok.fits.within p)) (ok.fits.one_each ∙ sym (length_full c))

pub full_from_sum : (c : Computation) (cut : List ℕ) → IsConsistent c cut → sum cut ≡ total c → cut ≡ full_cut c
full_from_sum c cut ok s =
    same_from_sum cut (full_cut c) (ok.fits.one_each ∙ sym (length_full c)) (λ p. rw full_at (ok.fits.within p)) s
