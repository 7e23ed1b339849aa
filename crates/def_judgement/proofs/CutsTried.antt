-- The first tried cut has at most as many events as a level with no avoiding cut: on the way back from the full cut,
-- too, a cut satisfies that has no more.
use Rattle.std.proofs.Common.{◌≡◌, ℕ, zero, suc, ◌+◌, ◌-◌, ◌<◌, ◌≤◌, inl, inr, ◌⊎◌, Bool, true, false, List, get_or, sum, refl, subst, arith}
use Rattle.std.proofs.lemmas.Bool.{cases_lt, false_from_ne_true}
use Rattle.def_model.specs.Answers.{LexBelow}
use Rattle.def_model.specs.Cuts.{IsConsistent, one_less, full_cut, total}
use Rattle.def_model.specs.Events.{Computation, IsEvent}
use Rattle.def_model.specs.Observations.{HasNoAvoiding}
use Rattle.def_model.specs.Order.{HasNoCycle}
use Rattle.def_model.proofs.Chains.{events_of_happens}
use Rattle.def_model.proofs.Consistency.{dec_consistent}
use Rattle.def_model.proofs.Counts.{empty_from_sum, full_at, length_full, step_from_less, sum_less}
use Rattle.def_model.proofs.Decisions.{dec_both, dec_less, least_from}
use Rattle.def_model.proofs.Steps.{can_undo, sum_within}
use Rattle.def_model.proofs.Walks.{Reached, avoiding_from_reached, reached_more}
use Rattle.def_wide.specs.Tried.{IsFirstTried, IsOnWayBack, LeavesConsistent, back, full, undone}

-- the full cut is consistent
full_consistent : (c : Computation) → IsConsistent c (full_cut c)
full_consistent c =
    record {
      fits = record { one_each = length_full c; within = λ p. rw full_at (omega arith) };
      closed = λ e f h i. let is : IsEvent c e = (events_of_happens c e f h).0 in (is.0, rw full_at (is.1));
    }

module _ (c : Computation) (acyclic : HasNoCycle c) where
  -- a cut on the way back that isn't empty is followed by one with one event less
  pub next_back : (cut : List ℕ) → IsOnWayBack c cut → IsConsistent c cut → 0 < sum cut → (p : ℕ)
      × (0 < get_or cut p 0) × IsConsistent c (one_less cut p) × IsOnWayBack c (one_less cut p)
  next_back cut on ok some =
      let u : (p : ℕ) × (0 < get_or cut p 0) × IsConsistent c (one_less cut p) = can_undo c acyclic cut ok some in
      let least : (m : ℕ) × LeavesConsistent c cut m × ((j : ℕ) → j < m → ¬ LeavesConsistent c cut j) =
      least_from (LeavesConsistent c cut)
      (λ q. dec_both (dec_less 0 (get_or cut q 0)) (dec_consistent c (one_less cut q))) u.0 (u.1, u.2) in
      (least.0, least.1.0, least.1.1, undone (one_less cut least.0) cut least.0 refl least.1 least.2 on)

  -- it comes to each level
  level_back : (more level : ℕ) (cut : List ℕ) → IsOnWayBack c cut → IsConsistent c cut → sum cut ≡ level + more
      → (low : List ℕ) × IsOnWayBack c low × IsConsistent c low × (sum low ≡ level)
  level_back zero level cut on ok is = (cut, on, ok, omega arith)
  level_back (suc more) level cut on ok is =
      let next = next_back cut on ok (omega arith) in
      let less : sum (one_less cut next.0) + 1 ≡ sum cut = sum_less cut next.0 next.1 in
      level_back more level (one_less cut next.0) next.3 next.2 (omega arith)

  module _ (test : List ℕ → Bool) (cut : List ℕ) (chosen : IsFirstTried c test cut) where
    -- none with fewer events than the first tried cut satisfies
    fails : (low : List ℕ) → IsOnWayBack c low → IsConsistent c low → sum low < sum cut → test low ≡ false
    fails low on ok fewer = false_from_ne_true (test low) (λ satisfies. go satisfies)
      where
        before : (sum cut < sum low) ⊎ ((sum cut ≡ sum low) × LexBelow cut low) → ⊥
        before (inl less) = omega arith
        before (inr (e, below)) = omega arith

        go : test low ≡ true → ⊥
        go satisfies = before (chosen.first low (back on) ok satisfies differs)
          where
            differs : ¬ (low ≡ cut)
            differs e = let same : sum low ≡ sum cut = subst (λ (x : List ℕ). sum low ≡ sum x) e refl in omega arith

    -- so such a cut on the way back is reached with none that satisfies
    reached : (n : ℕ) (low : List ℕ) → IsOnWayBack c low → IsConsistent c low → sum low ≡ n → n < sum cut
        → Reached c test n low
    reached zero low on ok is fewer =
        (ok, fails low on ok (omega arith), empty_from_sum c low ok.fits.one_each is)
    reached (suc n) low on ok is fewer =
        let next = next_back low on ok (omega arith) in
        let less : sum (one_less low next.0) + 1 ≡ sum low = sum_less low next.0 next.1 in
        reached_more c test n (one_less low next.0) low
        (reached n (one_less low next.0) next.3 next.2 (omega arith) (omega arith))
        (step_from_less low next.0 next.1) ok (fails low on ok (omega arith))

    pub tried_below_level : (level : ℕ) → HasNoAvoiding c test level → sum cut ≤ level
    tried_below_level level none = go (cases_lt level (sum cut))
      where
        go : (level < sum cut) ⊎ (sum cut ≤ level) → sum cut ≤ level
        go (inr le) = le
        go (inl lt) =
            let le : sum cut ≤ total c = sum_within c cut chosen.consistent in
            let low =
            level_back (total c - level) level (full_cut c) (full (full_cut c) refl) (full_consistent c) (omega arith)
            in
            absurd (none low.0 (avoiding_from_reached c test level low.0
            (reached level low.0 low.1 low.2 low.3 lt)))
