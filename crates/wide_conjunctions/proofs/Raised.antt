-- The way up to the least good cut.
use Rattle.std.proofs.Common.{◌≡◌, ℕ, ◌+◌, ◌-◌, ◌<◌, ◌≤◌, Bool, true, false, max, List, length, get_or, set, sum, refl, sym, ap, ◌∙◌, subst, inl, inr, ◌⊎◌, arith, get_or-set_other}
use Rattle.std.proofs.lemmas.Bool.{cases_eq, cases_lt}
use Rattle.std.proofs.lemmas.Grind.{get_or-set_at}
use Rattle.def_model.specs.Events.{Computation, Place, place, IsEvent, event_count}
use Rattle.def_model.specs.Order.{HappenedBefore, IsUpTo, IsClock}
use Rattle.def_model.specs.Cuts.{Includes, FitsProcesses, IsConsistent, total}
use Rattle.def_model.specs.Lattice.{IsWithin}
use Rattle.def_model.proofs.Chains.{events_of_happens, happens_transitive}
use Rattle.def_model.proofs.Consistency.{process_in_range}
use Rattle.def_model.proofs.Counts.{in_range, sum_le, same_from_sum}
use Rattle.def_model.proofs.Steps.{sum_within}
use Rattle.wide_conjunctions.specs.LeastCuts.{IsGood, IsLeastGood, HasNoGood}
use Rattle.wide_conjunctions.specs.Raises.{IsBelowGood, IsNextGood, HasNoNext, IsRaised}

-- what happened before something up to e happened before e
before_up_to : (c : Computation) (x f e : Place) → HappenedBefore c x f → IsUpTo c f e → HappenedBefore c x e
before_up_to c x f e h (inl same) = subst (λ (y : Place). HappenedBefore c x y) same h
before_up_to c x f e h (inr later) = happens_transitive c x f e h later

-- the count of one process more is raised
pub raised_on : (c : Computation) (e : Place) (old counts : List ℕ) (q n m : ℕ) → q < length counts
    → get_or counts q 0 ≡ get_or old q 0 → IsClock c e q n → m ≡ max (get_or counts q 0) n
    → ((k : ℕ) → k < q → (x : ℕ) × IsClock c e k x × (get_or counts k 0 ≡ max (get_or old k 0) x)) → (k : ℕ)
    → k < q + 1 → (x : ℕ) × IsClock c e k x × (get_or (set counts q m) k 0 ≡ max (get_or old k 0) x)
raised_on c e old counts q n m lt left clock is done k below = go (cases_eq k q)
  where
    go : (k ≡ q) ⊎ (k ≡ q → ⊥) → (x : ℕ) × IsClock c e k x × (get_or (set counts q m) k 0 ≡ max (get_or old k 0) x)
    go (inl same) =
        let at : get_or (set counts q m) k 0 ≡ m = get_or-set_at counts q k m 0 same lt in
        let was : get_or old k 0 ≡ get_or old q 0 = ap (λ (j : ℕ). get_or old j 0) same in
        (n, subst (λ (j : ℕ). IsClock c e j n) (sym same) clock, omega arith)
    go (inr apart) =
        let r : (x : ℕ) × IsClock c e k x × (get_or counts k 0 ≡ max (get_or old k 0) x) = done k (omega arith) in
        (r.0, r.1, get_or-set_other counts q k m 0 apart ∙ r.2)

pub left_on : (old counts : List ℕ) (q m : ℕ) → ((k : ℕ) → q ≤ k → get_or counts k 0 ≡ get_or old k 0) → (k : ℕ)
    → q + 1 ≤ k → get_or (set counts q m) k 0 ≡ get_or old k 0
left_on old counts q m left k from = get_or-set_other counts q k m 0 (λ e. omega arith) ∙ left k (omega arith)

module _ (c : Computation) (e : Place) (old new : List ℕ) (ok : IsConsistent c old) (raised : IsRaised c e old new)
  where
    -- a process with a count is one of those raised
    counted : (q : ℕ) → 0 < get_or new q 0 → q < length old
    counted q has = let l : length new ≡ length old = raised.same in let w : q < length new = in_range new q has in
        omega arith

    -- no count is lost
    pub grown : IsWithin old new
    grown q = go (cases_lt 0 (get_or old q 0))
      where
        go : (0 < get_or old q 0) ⊎ (get_or old q 0 ≤ 0) → get_or old q 0 ≤ get_or new q 0
        go (inl has) =
            let w : q < length old = in_range old q has in
            let is : get_or new q 0 ≡ max (get_or old q 0) (raised.raised q w).0 = (raised.raised q w).2 in
            omega arith
        go (inr none) = omega arith

    -- the counts are those of a consistent cut
    pub raised_consistent : IsConsistent c new
    raised_consistent = record { fits = fits; closed = closed }
      where
        fits : FitsProcesses c new
        fits = record {
          one_each = raised.same ∙ ok.fits.one_each;
          within = λ q. within q (cases_lt 0 (get_or new q 0));
        }
          where
            within : (q : ℕ) → (0 < get_or new q 0) ⊎ (get_or new q 0 ≤ 0) → get_or new q 0 ≤ event_count c q
            within q (inr none) = omega arith
            within q (inl has) =
                let r : (n : ℕ) × IsClock c e q n × (get_or new q 0 ≡ max (get_or old q 0) n) =
                raised.raised q (counted q has) in
                let is : get_or new q 0 ≡ max (get_or old q 0) r.0 = r.2 in
                let a : get_or old q 0 ≤ event_count c q = ok.fits.within q in
                let b : r.0 ≤ event_count c q = r.1.within in
                omega arith

        closed : (x f : Place) → HappenedBefore c x f → Includes new f → Includes new x
        closed x f h (low, high) = go (cases_lt (get_or old f.process 0) f.number)
          where
            go : (get_or old f.process 0 < f.number) ⊎ (f.number ≤ get_or old f.process 0) → Includes new x
            go (inr in_old) =
                let i : Includes old x = ok.closed x f h (low, in_old) in
                let j : get_or old x.process 0 ≤ get_or new x.process 0 = grown x.process in
                let k : x.number ≤ get_or old x.process 0 = i.1 in
                (i.0, omega arith)
            go (inl out) =
                let r : (n : ℕ) × IsClock c e f.process n × (get_or new f.process 0 ≡ max (get_or old f.process 0) n) =
                raised.raised f.process (counted f.process (omega arith)) in
                let is : get_or new f.process 0 ≡ max (get_or old f.process 0) r.0 = r.2 in
                let there : IsEvent c f = (events_of_happens c x f h).1 in
                let up_to : IsUpTo c f e = (r.1.past f.number low there.1).0 (omega arith) in
                let before : HappenedBefore c x e = before_up_to c x f e h up_to in
                let event : IsEvent c x = (events_of_happens c x f h).0 in
                let in_c : x.process < length c = process_in_range c x event in
                let l : length old ≡ length c = ok.fits.one_each in
                let s : (n : ℕ) × IsClock c e x.process n × (get_or new x.process 0 ≡ max (get_or old x.process 0) n) =
                raised.raised x.process (omega arith) in
                let at : get_or new x.process 0 ≡ max (get_or old x.process 0) s.0 = s.2 in
                let k : x.number ≤ s.0 = (s.1.past x.number event.0 event.1).1 (inr before) in
                (event.0, omega arith)

    -- a cut that has the event, and that the counts were within, has all of them
    pub raised_within : (other : List ℕ) → IsConsistent c other → IsWithin old other → Includes other e
        → IsWithin new other
    raised_within other okay within has q = go (cases_lt 0 (get_or new q 0))
      where
        go : (0 < get_or new q 0) ⊎ (get_or new q 0 ≤ 0) → get_or new q 0 ≤ get_or other q 0
        go (inr none) = omega arith
        go (inl some) = pick (cases_lt 0 r.0)
          where
            r : (n : ℕ) × IsClock c e q n × (get_or new q 0 ≡ max (get_or old q 0) n)
            r = raised.raised q (counted q some)

            from_past : 0 < r.0 → IsUpTo c (place q r.0) e → r.0 ≤ get_or other q 0
            from_past low (inl same) = (subst (λ (f : Place). Includes other f) (sym same) has).1
            from_past low (inr before) = (okay.closed (place q r.0) e before has).1

            pick : (0 < r.0) ⊎ (r.0 ≤ 0) → get_or new q 0 ≤ get_or other q 0
            pick (inr none) =
                let is : get_or new q 0 ≡ max (get_or old q 0) r.0 = r.2 in
                let a : get_or old q 0 ≤ get_or other q 0 = within q in
                omega arith
            pick (inl low) =
                let is : get_or new q 0 ≡ max (get_or old q 0) r.0 = r.2 in
                let a : get_or old q 0 ≤ get_or other q 0 = within q in
                let b : r.0 ≤ event_count c q = r.1.within in
                let up_to : IsUpTo c (place q r.0) e = (r.1.past r.0 (omega arith) b).0 (omega arith) in
                let d : r.0 ≤ get_or other q 0 = from_past low up_to in
                omega arith

    -- an event that wasn't counted leaves fewer to come
    pub fewer_left : IsEvent c e → get_or old e.process 0 < e.number → total c - sum new < total c - sum old
    fewer_left event out = go (cases_lt (sum old) (sum new))
      where
        here : e.number ≤ get_or new e.process 0
        here =
            let in_c : e.process < length c = process_in_range c e event in
            let l : length old ≡ length c = ok.fits.one_each in
            let r : (n : ℕ) × IsClock c e e.process n × (get_or new e.process 0 ≡ max (get_or old e.process 0) n) =
            raised.raised e.process (omega arith) in
            let is : get_or new e.process 0 ≡ max (get_or old e.process 0) r.0 = r.2 in
            let k : e.number ≤ r.0 = (r.1.past e.number event.0 event.1).1 (inl refl) in
            omega arith

        go : (sum old < sum new) ⊎ (sum new ≤ sum old) → total c - sum new < total c - sum old
        go (inl less) = let up : sum new ≤ total c = sum_within c new raised_consistent in omega arith
        go (inr le) =
            let l : length old ≡ length new = sym raised.same in
            let up : sum old ≤ sum new = sum_le old new grown l in
            let same : old ≡ new = same_from_sum old new l grown (omega arith) in
            let at : get_or old e.process 0 ≡ get_or new e.process 0 =
            ap (λ (xs : List ℕ). get_or xs e.process 0) same in
            let h : e.number ≤ get_or new e.process 0 = here in
            absurd (omega arith)

module _ (c : Computation) (good : ℕ → ℕ → Bool) (old : List ℕ) (below : IsBelowGood c good old) (p : ℕ)
    (bad : good p (get_or old p 0) ≡ false) where
  -- the next good count is another
  pub next_after : (next : ℕ) → IsNextGood (good p) (get_or old p 0) next → get_or old p 0 < next
  next_after next (from, is, none) = go (cases_lt (get_or old p 0) next)
    where
      go : (get_or old p 0 < next) ⊎ (next ≤ get_or old p 0) → get_or old p 0 < next
      go (inl less) = less
      go (inr le) = let same : next ≡ get_or old p 0 = omega arith in
          let e : good p next ≡ good p (get_or old p 0) = ap (λ (n : ℕ). good p n) same in absurd (cc)

  pub next_event : (next : ℕ) → IsNextGood (good p) (get_or old p 0) next → next ≤ event_count c p
      → IsEvent c (place p next)
  next_event next is within = let after : get_or old p 0 < next = next_after next is in (omega arith, within)

  -- each good cut has its event
  good_has : (next : ℕ) → IsNextGood (good p) (get_or old p 0) next → p < length c → (other : List ℕ)
      → IsConsistent c other → IsGood good other → Includes other (place p next)
  good_has next is there other ok all = (low, go (cases_lt (get_or other p 0) next))
    where
      low : 1 ≤ next
      low = let after : get_or old p 0 < next = next_after next is in omega arith

      go : (get_or other p 0 < next) ⊎ (next ≤ get_or other p 0) → next ≤ get_or other p 0
      go (inr le) = le
      go (inl less) =
          let l : length other ≡ length c = ok.fits.one_each in
          let yes_there : good p (get_or other p 0) ≡ true = all p (omega arith) in
          let no_there : good p (get_or other p 0) ≡ false =
          is.2 (get_or other p 0) (below.below other ok all p) less in
          absurd (cc)

  pub step_up : (next : ℕ) (new : List ℕ) → IsNextGood (good p) (get_or old p 0) next → p < length c
      → IsRaised c (place p next) old new → IsBelowGood c good new
  step_up next new is there raised =
      record {
        consistent = raised_consistent c (place p next) old new below.consistent raised;
        below =
            λ other ok all.
            raised_within c (place p next) old new below.consistent raised other ok (below.below other ok all)
            (good_has next is there other ok all);
      }

  pub none_good : HasNoNext (good p) (get_or old p 0) (event_count c p) → p < length c → HasNoGood c good
  none_good none there cut ok all =
      let l : length cut ≡ length c = ok.fits.one_each in
      let yes_there : good p (get_or cut p 0) ≡ true = all p (omega arith) in
      let no_there : good p (get_or cut p 0) ≡ false =
      none (get_or cut p 0) (below.below cut ok all p) (ok.fits.within p) in
      absurd (cc)

-- where each count is good the way ends
pub reached : (c : Computation) (good : ℕ → ℕ → Bool) (counts : List ℕ) → IsBelowGood c good counts
    → IsGood good counts → IsLeastGood c good counts
reached c good counts below all =
    record { consistent = below.consistent; good_there = all; least = below.below }
