-- What keeps the last event of a process from being undone.
use Rattle.std.proofs.Common.{◌≡◌, ◌≢◌, ℕ, ◌+◌, ◌<◌, ◌≤◌, Bool, List, length, get_or, length-set, set, refl, sym, ap, ◌∙◌, subst, inl, inr, ◌⊎◌, arith}
use Rattle.std.proofs.lemmas.Bool.{cases_eq}
use Rattle.std.proofs.lemmas.List.{get_or-set_same, get_or-set_other}
use Rattle.def_model.specs.Events.{Computation, Place, place, event_count}
use Rattle.def_model.specs.Order.{HappenedBefore, HasNoCycle, IsUpTo}
use Rattle.def_model.specs.Cuts.{Includes, IsConsistent, empty_cut, full_cut, one_less}
use Rattle.def_model.specs.Lattice.{IsWithin}
use Rattle.def_model.proofs.Chains.{happens_before_later}
use Rattle.def_model.proofs.Counts.{empty_at, full_at, in_range, less_le, less_other, less_same}
use Rattle.def_model.proofs.Steps.{empty_consistent}
use Rattle.def_model.proofs.Undoing.{undo_at}
use Rattle.wide_conjunctions.proofs.MostBefore.{one_more}
use Rattle.wide_conjunctions.specs.Boxes.{HasNoBox, LeavesNoBox}
use Rattle.wide_conjunctions.specs.Ways.{ComesBack}
use Rattle.wide_conjunctions.proofs.LastIntervals.{none_unless_back}
use Rattle.wide_conjunctions.specs.declared.holds.Hold.{Hold}
use Rattle.wide_conjunctions.specs.Holds.{AreHolds, CanUndo, IsFreeAbove, IsHeldFrom, IsHeldAbove, IsHold, IsNeeded, IsNeeding, IsRunDown, IsSameBut}

module _ (c : Computation) where
  -- where there is no event there is none to undo
  pub held_at_none : (p q number : ℕ) → IsHeldFrom c p 0 q number
  held_at_none p q number other ok has low (pos, less) = omega arith

  -- what an event has in its past is held as long as the event is there
  pub held_by : (q number p low : ℕ) → q ≢ p → IsNeeding c q number p low → IsHeldFrom c p low q number
  held_by q number p low apart (one, (n, clock, le)) other ok has few (pos, less) =
      go ((clock.past (get_or other p 0) pos (ok.fits.within p)).0 (omega arith))
    where
      go : IsUpTo c (place p (get_or other p 0)) (place q number) → ⊥
      go (inl same) = apart (sym (ap (λ (e : Place). e.process) same))
      go (inr before) =
          let kept : get_or (one_less other p) q 0 ≡ get_or other q 0 = less_other other p q apart in
          let fewer : get_or (one_less other p) p 0 + 1 ≡ get_or other p 0 = less_same other p pos in
          let there : Includes (one_less other p) (place p (get_or other p 0)) =
          less.closed (place p (get_or other p 0)) (place q number) before (one, omega (arith, kept, has)) in
          let high : get_or other p 0 ≤ get_or (one_less other p) p 0 = there.1 in
          omega (arith, fewer, high)

  -- more events than each last one of another process has in its past can be undone, here and further down
  pub free_above : HasNoCycle c → (counts : List ℕ) (p low : ℕ) → IsConsistent c counts
      → ((q : ℕ) → q < length c → (m : ℕ) × IsNeeded c counts q p m × (m ≤ low)) → IsFreeAbove c counts p low
  free_above acyclic counts p low ok each other ok_other within more =
      let none : get_or (empty_cut c) p 0 ≡ 0 = empty_at c p in (
        omega arith,
        undo_at c (empty_cut c) other p (empty_consistent c) ok_other (omega arith)
            (λ q above before. go q (let z : get_or (empty_cut c) q 0 ≡ 0 = empty_at c q in omega arith) before
            (cases_eq q p)),
      )
    where
      go : (q : ℕ) → 0 < get_or other q 0
          → HappenedBefore c (place p (get_or other p 0)) (place q (get_or other q 0)) → (q ≡ p) ⊎ (q ≡ p → ⊥) → ⊥
      go q has before (inl same) =
          let back : HappenedBefore c (place p (get_or other p 0)) (place p (get_or other p 0)) = rw same at before in
          acyclic (place p (get_or other p 0)) back
      go q has before (inr apart) =
          let up : get_or other q 0 ≤ get_or counts q 0 = within q in
          let inside : q < length c = let l : q < length other = in_range other q has in
          omega (arith, ok_other.fits.one_each, l) in
          let last : get_or counts q 0 ≤ event_count c q = ok.fits.within q in
          let some : 0 < get_or counts q 0 = omega (arith, up, has) in
          let w : (m : ℕ) × IsNeeded c counts q p m × (m ≤ low) = each q inside in
          let later : HappenedBefore c (place p (get_or other p 0)) (place q (get_or counts q 0)) =
          happens_before_later c (place p (get_or other p 0)) (place q (get_or other q 0)) (get_or counts q 0) before up
          (omega (arith, some), last) in
          let known : get_or other p 0 ≤ w.0 =
          ((w.1.clock apart some).past (get_or other p 0) (omega (arith, more)) (ok_other.fits.within p)).1
          (inr later) in
          let most : w.0 ≤ low = w.2 in
          omega (arith, known, most, more)

  -- one process more is looked at
  pub each_needed : (counts : List ℕ) (p q low count new : ℕ)
      → ((k : ℕ) → k < q → (m : ℕ) × IsNeeded c counts k p m × (m ≤ low)) → IsNeeded c counts q p count → low ≤ new
      → count ≤ new → (k : ℕ) → k < q + 1 → (m : ℕ) × IsNeeded c counts k p m × (m ≤ new)
  each_needed counts p q low count new before here up high =
      one_more (λ k. (m : ℕ) × IsNeeded c counts k p m × (m ≤ new)) q (λ k lt. further (before k lt))
      (count, here, high)
    where
      further : {k : ℕ} → ((m : ℕ) × IsNeeded c counts k p m × (m ≤ low))
          → (m : ℕ) × IsNeeded c counts k p m × (m ≤ new)
      further (m, is, le) = (m, is, omega (arith, le, up))

  -- whether the last event of a process can be undone, by what is known of it
  pub by_low : (cut : List ℕ) (p : ℕ) (hold : Hold) → IsConsistent c cut → IsHold c cut p hold
      → hold.low < get_or cut p 0 → CanUndo c cut p
  by_low cut p hold ok is more = is.free cut ok (λ q. omega arith) more

  pub by_number : (cut : List ℕ) (p : ℕ) (hold : Hold) → IsConsistent c cut → IsHold c cut p hold
      → get_or cut p 0 ≤ hold.low → hold.number ≤ get_or cut hold.process 0 → ¬ CanUndo c cut p
  by_number cut p hold ok is few has = is.held cut ok has few

  -- what is known holds further down
  hold_within : (cut low : List ℕ) (p : ℕ) (hold : Hold) → IsWithin low cut → IsHold c cut p hold
      → IsHold c low p hold
  hold_within cut low p hold below is = record {
    there = is.there;
    held = is.held;
    free =
        λ other ok within more.
        is.free other ok
        (λ q. let a : get_or other q 0 ≤ get_or low q 0 = within q in
        let b : get_or low q 0 ≤ get_or cut q 0 = below q in omega (arith, a, b)) more;
  }

  pub holds_less : (cut low : List ℕ) (p : ℕ) (holds : List Hold) → 0 < get_or cut p 0 → low ≡ one_less cut p
      → AreHolds c cut holds → AreHolds c low holds
  holds_less cut low p holds has less are =
      subst (λ (xs : List ℕ). AreHolds c xs holds) (sym less) (record {
        one_each = are.one_each;
        each =
            λ q d lt. hold_within cut (one_less cut p) q (get_or holds q d) (λ r. less_le cut p r has)
            (are.each q d lt);
      })

  -- what is newly known of a process takes the old one's place
  pub holds_set : (cut : List ℕ) (p : ℕ) (holds new : List Hold) (hold : Hold) → p < length c → AreHolds c cut holds
      → IsHold c cut p hold → new ≡ set holds p hold → AreHolds c cut new
  holds_set cut p holds new hold lt are is made =
      subst (λ (xs : List Hold). AreHolds c cut xs) (sym made) (record {
        one_each = length-set holds p hold ∙ are.one_each;
        each = λ q d below. go q d below (cases_eq q p);
      })
    where
      go : (q : ℕ) (d : Hold) → q < length c → (q ≡ p) ⊎ (q ≡ p → ⊥) → IsHold c cut q (get_or (set holds p hold) q d)
      go q d below (inr apart) =
          subst (λ (h : Hold). IsHold c cut q h) (sym (get_or-set_other holds p q hold d apart)) (are.each q d below)
      go q d below (inl same) =
          let l : length holds ≡ length c = are.one_each in
          let at : get_or (set holds p hold) p d ≡ hold =
          get_or-set_same holds p hold d (omega (arith, l, lt)) in
          subst (λ (i : ℕ). IsHold c cut i (get_or (set holds p hold) i d)) (sym same)
          (subst (λ (h : Hold). IsHold c cut p h) (sym at) is)

  -- ---- runs of one process

  -- a greater count stops no later
  pub free_up : (cut : List ℕ) (p stop new : ℕ) → IsFreeAbove c cut p stop → stop ≤ new → IsFreeAbove c cut p new
  free_up cut p stop new free up other ok within more = free other ok within (omega (arith, up, more))

  -- a process before it is held as well
  pub held_more : (cut : List ℕ) (p r stop new : ℕ) (hold : Hold) → r ≢ p
      → ((k : ℕ) → k < r → IsHeldAbove c cut p stop k) → IsHold c cut r hold
      → (get_or cut r 0 ≤ hold.low) × (hold.number ≤ get_or cut hold.process 0) → stop ≤ new
      → (hold.process ≡ p → hold.number ≤ new) → (k : ℕ) → k < r + 1 → IsHeldAbove c cut p new k
  held_more cut p r stop new hold apart before is here up own =
      one_more (λ k. IsHeldAbove c cut p new k) r
      (λ k lt other ok within same more. before k lt other ok within same (omega (arith, up, more)))
      (λ other ok within same more. is.held other ok (has other same more (cases_eq hold.process p))
      (let e : get_or other r 0 ≡ get_or cut r 0 = same r apart in omega (arith, e, here.0)))
    where
      has : (other : List ℕ) → IsSameBut cut other p → new < get_or other p 0
          → (hold.process ≡ p) ⊎ (hold.process ≡ p → ⊥) → hold.number ≤ get_or other hold.process 0
      has other same more (inl it) =
          let e : get_or other hold.process 0 ≡ get_or other p 0 = ap (λ (q : ℕ). get_or other q 0) it in
          omega (arith, e, more, own it)
      has other same more (inr not_it) =
          let e : get_or other hold.process 0 ≡ get_or cut hold.process 0 = same hold.process not_it in
          omega (arith, e, here.1)

  -- no cut within this one has more events than it
  pub run_none : (cut : List ℕ) (p stop : ℕ) → get_or cut p 0 ≤ stop → IsRunDown c cut p stop
  run_none cut p stop high = record {
    free =
        λ other ok within more. let a : get_or other p 0 ≤ get_or cut p 0 = within p in
        absurd (omega (arith, a, high, more));
    held =
        λ r lt other ok within same more can. let a : get_or other p 0 ≤ get_or cut p 0 = within p in
        omega (arith, a, high, more);
  }

  pub run_first : (stop : ℕ) → stop ≡ event_count c 0 → IsRunDown c (full_cut c) 0 stop
  run_first stop same =
      let at : get_or (full_cut c) 0 0 ≡ event_count c 0 = full_at c 0 in
      run_none (full_cut c) 0 stop (omega (arith, at, same))

  -- one event fewer
  pub run_less : (cut low : List ℕ) (p stop : ℕ) → 0 < get_or cut p 0 → low ≡ one_less cut p
      → IsRunDown c cut p stop → IsRunDown c low p stop
  run_less cut low p stop has less run =
      subst (λ (xs : List ℕ). IsRunDown c xs p stop) (sym less) (record {
        free = λ other ok within more. run.free other ok (further other within) more;
        held =
            λ r lt other ok within same more.
            run.held r lt other ok (further other within) (λ q apart. same q apart ∙ less_other cut p q apart)
            more;
      })
    where
      further : (other : List ℕ) → IsWithin other (one_less cut p) → IsWithin other cut
      further other within q =
          let a : get_or other q 0 ≤ get_or (one_less cut p) q 0 = within q in
          let b : get_or (one_less cut p) q 0 ≤ get_or cut q 0 = less_le cut p q has in
          omega (arith, a, b)

-- the next step of a run
module _ (c : Computation) (good : ℕ → ℕ → Bool) (cut : List ℕ) (p stop : ℕ) (ok : IsConsistent c cut)
    (run : IsRunDown c cut p stop) (more : stop < get_or cut p 0) where
  pub run_leaves : HasNoBox c good cut → ¬ ComesBack good cut p → LeavesNoBox c good cut p
  run_leaves none not_back =
      let can : CanUndo c cut p = run.free cut ok (λ q. omega arith) more in
      (can.0, can.1, none_unless_back c good cut p ok none can.0 not_back)

  pub run_least : (q : ℕ) → q < p → ¬ LeavesNoBox c good cut q
  run_least q lt leaves = run.held q lt cut ok (λ r. omega arith) (λ r apart. refl) more (leaves.0, leaves.1)
