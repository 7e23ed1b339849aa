-- The least consistent cuts in which processes have some events at least.
use Rattle.std.proofs.Common.{◌≡◌, ℕ, ◌+◌, ◌-◌, ◌<◌, ◌≤◌, ◌⊎◌, inl, inr, max, List, [], ◌∷◌, ◌++◌, length, get_or, refl, sym, ap, ◌∙◌, subst, arith}
use Rattle.std.proofs.lemmas.List.{get_or-append_right, get_or_append_left}
use Rattle.std.proofs.lemmas.Bool.{cases_lt}
use Rattle.def_model.specs.Cuts.{IsConsistent, empty_cut}
use Rattle.def_model.specs.Events.{Computation, event_count, place, IsEvent}
use Rattle.def_model.specs.Lattice.{IsWithin}
use Rattle.def_model.specs.Order.{HasNoCycle, IsClock}
use Rattle.def_model.proofs.ClockSteps.{own_count}
use Rattle.def_model.proofs.Counts.{empty_at}
use Rattle.def_model.proofs.Steps.{empty_consistent}
use Rattle.wide_conjunctions.specs.Raises.{IsRaised}
use Rattle.wide_conjunctions.proofs.Raised.{grown, raised_consistent, raised_within}
use Rattle.wide_pairs.specs.LeastCuts.{IsLeastWith, IsLeastWithBoth, IsTakenIn}

-- no event is taken in
pub none_taken : (c : Computation) (p i : ℕ) (old : List ℕ) → IsConsistent c old → i ≤ 0 → IsTakenIn c p i old old
none_taken c p i old ok none = record {
  consistent = ok;
  same = refl;
  above = λ q. omega arith;
  here = omega arith;
  least = λ other okay within has. within;
}

-- an event is taken in, and all that happened before it
pub some_taken : (c : Computation) → HasNoCycle c → (p i : ℕ) (old new : List ℕ) → IsConsistent c old
    → p < length c → 0 < i → i ≤ event_count c p → IsRaised c (place p i) old new → IsTakenIn c p i old new
some_taken c acyclic p i old new ok there some within raised =
    let l : length old ≡ length c = ok.fits.one_each in
    let event : IsEvent c (place p i) = (omega arith, within) in
    let at : (n : ℕ) × IsClock c (place p i) p n × (get_or new p 0 ≡ max (get_or old p 0) n) =
    raised.raised p (omega arith) in
    let own : at.0 ≡ i = own_count c (place p i) at.0 acyclic event at.1 in
    let is : get_or new p 0 ≡ max (get_or old p 0) at.0 = at.2 in
    record {
      consistent = raised_consistent c (place p i) old new ok raised;
      same = raised.same;
      above = grown c (place p i) old new ok raised;
      here = omega arith;
      least = λ other okay below has.
          raised_within c (place p i) old new ok raised other okay below (omega arith, has);
    }

-- the empty cut is within each cut
within_from_empty : (c : Computation) (old other : List ℕ) → old ≡ empty_cut c → IsWithin old other
within_from_empty c old other empty q =
    let at : get_or (empty_cut c) q 0 ≡ 0 = empty_at c q in
    let none : get_or old q 0 ≡ 0 = subst (λ (xs : List ℕ). get_or xs q 0 ≡ 0) (sym empty) at in
    omega arith

pub none_consistent : (c : Computation) (old : List ℕ) → old ≡ empty_cut c → IsConsistent c old
none_consistent c old empty = subst (λ (xs : List ℕ). IsConsistent c xs) (sym empty) (empty_consistent c)

-- the empty cut is the least with no event
pub least_with_none : (c : Computation) (p i : ℕ) (old : List ℕ) → old ≡ empty_cut c → i ≤ 0 → IsLeastWith c p i old
least_with_none c p i old empty none =
    let at : get_or (empty_cut c) p 0 ≡ 0 = empty_at c p in
    let here : get_or old p 0 ≡ 0 = subst (λ (xs : List ℕ). get_or xs p 0 ≡ 0) (sym empty) at in
    record {
      consistent = none_consistent c old empty;
      here = omega arith;
      least = λ other ok has. within_from_empty c old other empty;
    }

-- and what is taken into the least with fewer makes the least with more
pub least_with_more : (c : Computation) (p i k : ℕ) (old new : List ℕ) → i ≤ k → IsLeastWith c p i old
    → IsTakenIn c p k old new → IsLeastWith c p k new
least_with_more c p i k old new le least taken =
    let was : get_or old p 0 ≡ i = least.here in
    let here : get_or new p 0 ≡ max (get_or old p 0) k = taken.here in
    record {
      consistent = taken.consistent;
      here = omega arith;
      least = λ other ok has. taken.least other ok (least.least other ok (omega arith)) has;
    }

-- what is taken into the empty cut of two processes makes the least with both
pub least_with_both : (c : Computation) (p q i j : ℕ) (old mid new : List ℕ) → old ≡ empty_cut c
    → IsTakenIn c p i old mid → IsTakenIn c q j mid new → IsLeastWithBoth c p q i j new
least_with_both c p q i j old mid new empty one two =
    let here : get_or mid p 0 ≡ max (get_or old p 0) i = one.here in
    let above : get_or mid p 0 ≤ get_or new p 0 = two.above p in
    let there : get_or new q 0 ≡ max (get_or mid q 0) j = two.here in
    record {
      consistent = two.consistent;
      first = omega arith;
      second = omega arith;
      least = λ other ok has has_too.
          two.least other ok (one.least other ok (within_from_empty c old other empty) has) has_too;
    }

-- what holds of each element and of one more
pub each_more : (P : ℕ → ℕ → Type 0) (xs new : List ℕ) (x : ℕ) → new ≡ xs ++ x ∷ []
    → ((i : ℕ) → i < length xs → P i (get_or xs i 0)) → P (length xs) x → (i : ℕ) → i < length xs + 1
    → P i (get_or new i 0)
each_more P xs new x pushed before last i lt =
    subst (λ (ys : List ℕ). P i (get_or ys i 0)) (sym pushed) (go (cases_lt i (length xs)))
  where
    go : (i < length xs) ⊎ (length xs ≤ i) → P i (get_or (xs ++ x ∷ []) i 0)
    go (inl low) = subst (P i) (sym (get_or_append_left xs (x ∷ []) 0 i low)) (before i low)
    go (inr high) =
        let same : i ≡ length xs = omega arith in
        let none : i - length xs ≡ 0 = omega arith in
        let end : get_or (xs ++ x ∷ []) i 0 ≡ x =
        get_or-append_right xs (x ∷ []) (length xs) i 0 refl high ∙ ap (λ (n : ℕ). get_or (x ∷ []) n 0) none in
        subst (P i) (sym end) (subst (λ (n : ℕ). P n x) (sym same) last)
