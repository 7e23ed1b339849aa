-- The join of the least cut and of the pasts of the steps of a set.
use Rattle.std.proofs.Common.{◌≡◌, ℕ, zero, suc, ◌<◌, ◌≤◌, Bool, true, false, cond, max, List, [], ◌∷◌, length, get_or, refl, sym, ap, ◌∙◌, subst, ◌⊎◌, inl, inr, arith}
use Rattle.std.proofs.lemmas.Bool.{cases_Bool, cases_lt, cond-false, cond-true, false≢true}
use Rattle.def_model.specs.Events.{Computation}
use Rattle.def_model.specs.Lattice.{IsWithin, join}
use Rattle.def_model.proofs.MeetAndJoin.{join_above_left, join_above_right, join_at, join_consistent, length_join}
use Rattle.wide_conjunctions.specs.LeastCuts.{IsGood}
use Rattle.wide_flow.specs.Steps.{step_at}
use Rattle.wide_flow.specs.declared.step.Step.{Step}
use Rattle.wide_slice.specs.Goods.{IsInside}
use Rattle.wide_slice.specs.Steps.{ArePastsWithin, HasStep}

-- each count of a join is that of one of the two
join_cases : (a b : List ℕ) (q : ℕ) → (get_or (join a b) q 0 ≡ get_or a q 0) ⊎ (get_or (join a b) q 0 ≡ get_or b q 0)
join_cases a b q = go (cases_lt (get_or a q 0) (get_or b q 0))
  where
    at : get_or (join a b) q 0 ≡ max (get_or a q 0) (get_or b q 0)
    at = join_at a b q

    go : (get_or a q 0 < get_or b q 0) ⊎ (get_or b q 0 ≤ get_or a q 0)
        → (get_or (join a b) q 0 ≡ get_or a q 0) ⊎ (get_or (join a b) q 0 ≡ get_or b q 0)
    go (inl less) = inr (omega (arith, at, less))
    go (inr le) = inl (omega (arith, at, le))

-- the join of cuts of the slice is one
join_inside : (c : Computation) (good : ℕ → ℕ → Bool) (a b : List ℕ) → IsInside c good a → IsInside c good b
    → IsInside c good (join a b)
join_inside c good a b in_a in_b = (join_consistent c a b in_a.0 in_b.0, good_there)
  where
    same : length a ≡ length b
    same = in_a.0.fits.one_each ∙ sym in_b.0.fits.one_each

    good_there : IsGood good (join a b)
    good_there q lt = go (join_cases a b q)
      where
        there : q < length a
        there = omega (arith, lt, length_join a b same)

        go : (get_or (join a b) q 0 ≡ get_or a q 0) ⊎ (get_or (join a b) q 0 ≡ get_or b q 0)
            → good q (get_or (join a b) q 0) ≡ true
        go (inl is) = ap (λ (n : ℕ). good q n) is ∙ in_a.1 q there
        go (inr is) = ap (λ (n : ℕ). good q n) is ∙ in_b.1 q (omega (arith, there, same))

abbrev pub joined : (ℕ → ℕ → Bool) → List ℕ → List Step → List ℕ
joined set low [] = low
joined set low (step ∷ steps) =
    cond (set step.process step.count) (join step.past.now (joined set low steps)) (joined set low steps)

module _ (set : ℕ → ℕ → Bool) (low : List ℕ) where
  -- what holds of the join with a step's past, if the set has the step, and else without it
  by_step : (P : List ℕ → Type 0) (step : Step) (steps : List Step)
      → (set step.process step.count ≡ true → P (join step.past.now (joined set low steps)))
      → (set step.process step.count ≡ false → P (joined set low steps)) → P (joined set low (step ∷ steps))
  by_step P step steps with_it without = go (cases_Bool (set step.process step.count))
    where
      go : (set step.process step.count ≡ true) ⊎ (set step.process step.count ≡ false)
          → P (joined set low (step ∷ steps))
      go (inl is) =
          subst P
          (sym (cond-true (set step.process step.count) (join step.past.now (joined set low steps))
          (joined set low steps) is)) (with_it is)
      go (inr is) =
          subst P
          (sym (cond-false (set step.process step.count) (join step.past.now (joined set low steps))
          (joined set low steps) is)) (without is)

  pub joined_low : (steps : List Step) → IsWithin low (joined set low steps)
  joined_low [] = λ p. omega arith
  joined_low (step ∷ steps) =
      by_step (IsWithin low) step steps
      (λ is p.
      let rest : get_or low p 0 ≤ get_or (joined set low steps) p 0 = joined_low steps p in
      let up : get_or (joined set low steps) p 0 ≤ get_or (join step.past.now (joined set low steps)) p 0 =
      join_above_right step.past.now (joined set low steps) p in
      omega (arith, rest, up))
      (λ is. joined_low steps)

  pub joined_member : (steps : List Step) (i : ℕ) → i < length steps → HasStep set (step_at steps i)
      → IsWithin (step_at steps i).past.now (joined set low steps)
  joined_member [] i lt has = absurd (omega (arith, lt))
  joined_member (step ∷ steps) zero lt has =
      by_step (IsWithin step.past.now) step steps
      (λ is. join_above_left step.past.now (joined set low steps))
      (λ is. absurd (false≢true (sym is ∙ has)))
  joined_member (step ∷ steps) (suc i) lt has =
      by_step (IsWithin (step_at steps i).past.now) step steps
      (λ is p.
      let rest : get_or (step_at steps i).past.now p 0 ≤ get_or (joined set low steps) p 0 =
      joined_member steps i (omega (arith, lt)) has p in
      let up : get_or (joined set low steps) p 0 ≤ get_or (join step.past.now (joined set low steps)) p 0 =
      join_above_right step.past.now (joined set low steps) p in
      omega (arith, rest, up))
      (λ is. joined_member steps i (omega (arith, lt)) has)

  -- a count of the join is that of the least cut, or of the past of a step of the set
  pub joined_from : (steps : List Step) (q : ℕ) → (get_or (joined set low steps) q 0 ≡ get_or low q 0)
      ⊎ ((i : ℕ) × (i < length steps) × HasStep set (step_at steps i)
      × (get_or (joined set low steps) q 0 ≡ get_or (step_at steps i).past.now q 0))
  joined_from [] q = inl refl
  joined_from (step ∷ steps) q =
      by_step (λ cut. (get_or cut q 0 ≡ get_or low q 0)
      ⊎ ((i : ℕ) × (i < length (step ∷ steps)) × HasStep set (step_at (step ∷ steps) i)
      × (get_or cut q 0 ≡ get_or (step_at (step ∷ steps) i).past.now q 0))) step steps
      (λ is. with_past is (join_cases step.past.now (joined set low steps) q) (joined_from steps q))
      (λ is. later (joined set low steps) refl (joined_from steps q))
    where
      later : (cut : List ℕ) → get_or cut q 0 ≡ get_or (joined set low steps) q 0
          → (get_or (joined set low steps) q 0 ≡ get_or low q 0)
          ⊎ ((i : ℕ) × (i < length steps) × HasStep set (step_at steps i)
          × (get_or (joined set low steps) q 0 ≡ get_or (step_at steps i).past.now q 0))
          → (get_or cut q 0 ≡ get_or low q 0)
          ⊎ ((i : ℕ) × (i < length (step ∷ steps)) × HasStep set (step_at (step ∷ steps) i)
          × (get_or cut q 0 ≡ get_or (step_at (step ∷ steps) i).past.now q 0))
      later cut same (inl is) = inl (same ∙ is)
      later cut same (inr (i, lt, has, is)) = inr (suc i, omega (arith, lt), has, same ∙ is)

      with_past : set step.process step.count ≡ true
          → (get_or (join step.past.now (joined set low steps)) q 0 ≡ get_or step.past.now q 0)
          ⊎ (get_or (join step.past.now (joined set low steps)) q 0 ≡ get_or (joined set low steps) q 0)
          → (get_or (joined set low steps) q 0 ≡ get_or low q 0)
          ⊎ ((i : ℕ) × (i < length steps) × HasStep set (step_at steps i)
          × (get_or (joined set low steps) q 0 ≡ get_or (step_at steps i).past.now q 0))
          → (get_or (join step.past.now (joined set low steps)) q 0 ≡ get_or low q 0)
          ⊎ ((i : ℕ) × (i < length (step ∷ steps)) × HasStep set (step_at (step ∷ steps) i)
          × (get_or (join step.past.now (joined set low steps)) q 0
          ≡ get_or (step_at (step ∷ steps) i).past.now q 0))
      with_past is (inl here) rest = inr (0, omega arith, is, here)
      with_past is (inr there) rest = later (join step.past.now (joined set low steps)) there rest

  pub joined_inside : (c : Computation) (good : ℕ → ℕ → Bool) → IsInside c good low → (steps : List Step)
      → ((i : ℕ) → i < length steps → IsInside c good (step_at steps i).past.now)
      → IsInside c good (joined set low steps)
  joined_inside c good inside [] each = inside
  joined_inside c good inside (step ∷ steps) each =
      let rest : IsInside c good (joined set low steps) =
      joined_inside c good inside steps (λ i lt. each (suc i) (omega (arith, lt))) in
      by_step (IsInside c good) step steps
      (λ is. join_inside c good step.past.now (joined set low steps) (each 0 (omega arith)) rest) (λ is. rest)

-- what all of them are within the join is
pub joined_bound : (set : ℕ → ℕ → Bool) (low : List ℕ) (steps : List Step) (bound : List ℕ) → IsWithin low bound
    → ArePastsWithin steps set bound → IsWithin (joined set low steps) bound
joined_bound set low steps bound below within q = go (joined_from set low steps q)
  where
    go : (get_or (joined set low steps) q 0 ≡ get_or low q 0)
        ⊎ ((i : ℕ) × (i < length steps) × HasStep set (step_at steps i)
        × (get_or (joined set low steps) q 0 ≡ get_or (step_at steps i).past.now q 0))
        → get_or (joined set low steps) q 0 ≤ get_or bound q 0
    go (inl is) = let le : get_or low q 0 ≤ get_or bound q 0 = below q in omega (arith, is, le)
    go (inr (i, lt, has, is)) =
        let le : get_or (step_at steps i).past.now q 0 ≤ get_or bound q 0 = within i lt has q in
        omega (arith, is, le)
