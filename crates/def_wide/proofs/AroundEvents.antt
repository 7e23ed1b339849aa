-- Counts around an event: those of a cut joined with them, and the two cuts between which a walk comes to the event.
use Rattle.std.proofs.Common.{◌≡◌, ◌≢◌, inl, inr, ◌⊎◌, ℕ, zero, suc, ◌<◌, ◌≤◌, Bool, false, List, get_or, max, sym, ap, ◌∙◌, subst, arith, add-one}
use Rattle.std.proofs.lemmas.Bool.{cases_lt}
use Rattle.def_model.specs.Events.{Computation, Place, event_count}
use Rattle.def_model.specs.Order.{HappenedBefore, HasNoCycle}
use Rattle.def_model.specs.Cuts.{AddsEvent, AddsPlace, Includes, IsConsistent, IsOfLevel, cut_of}
use Rattle.def_model.specs.Lattice.{join}
use Rattle.def_model.specs.Observations.{IsAvoiding}
use Rattle.def_model.proofs.AvoidingCuts.{avoiding_fails}
use Rattle.def_model.proofs.Counts.{empty_at, empty_from_sum}
use Rattle.def_model.proofs.CutsAndCounts.{adds_place, includes_from_test, test_from_includes}
use Rattle.def_model.proofs.MeetAndJoin.{join_above_right, join_at, length_join}
use Rattle.def_model.proofs.Paths.{avoiding_level, next_avoiding}
use Rattle.def_wide.specs.Gates.{IsAround, IsRightAfter, IsRightBefore}

-- what two joined counts include, one of them does
pub join_includes : (a b : List ℕ) (f : Place) → Includes (join a b) f → Includes a f ⊎ Includes b f
join_includes a b f (low, high) = go (cases_lt (get_or a f.process 0) f.number)
  where
    go : (get_or a f.process 0 < f.number) ⊎ (f.number ≤ get_or a f.process 0) → Includes a f ⊎ Includes b f
    go (inr within) = inl (low, within)
    go (inl out) =
        let is : get_or (join a b) f.process 0 ≡ max (get_or a f.process 0) (get_or b f.process 0) =
        join_at a b f.process in
        inr (low, omega arith)

pub right_included : (a b : List ℕ) (f : Place) → Includes b f → Includes (join a b) f
right_included a b f (low, high) =
    let more : get_or b f.process 0 ≤ get_or (join a b) f.process 0 = join_above_right a b f.process in
    (low, omega arith)

-- a consistent cut without the event, joined with counts around it
pub join_around : (c : Computation) (e : Place) (cut counts : List ℕ) → IsConsistent c cut → ¬ Includes cut e
    → IsAround c e counts → IsAround c e (join cut counts)
join_around c e cut counts ok out around =
    record {
      fits = record {
        one_each = length_join cut counts (ok.fits.one_each ∙ sym around.fits.one_each) ∙ ok.fits.one_each;
        within = λ p. let i : get_or cut p 0 ≤ event_count c p = ok.fits.within p in
            let j : get_or counts p 0 ≤ event_count c p = around.fits.within p in rw join_at (omega arith);
      };
      past = λ f h. right_included cut counts f (around.past f h);
      none_after = λ f h i. none f h (join_includes cut counts f i);
    }
  where
    none : (f : Place) → HappenedBefore c e f → Includes cut f ⊎ Includes counts f → ⊥
    none f h (inl i) = out (ok.closed e f h i)
    none f h (inr i) = around.none_after f h i

-- ---- a walk comes to the event

module _ (c : Computation) (acyclic : HasNoCycle c) (e : Place) where
  module _ (old new : List ℕ) (before : IsConsistent c old) (after : IsConsistent c new) (adds : AddsEvent old new)
      (out : ¬ Includes old e) (has : Includes new e) where
    -- the cut before it has all other events of the cut after it
    others : (f : Place) → f ≢ e → Includes new f → Includes old f
    others f apart i =
        includes_from_test old f
        (sym (d.3 f (λ same. no_other (λ is. apart (same ∙ sym is)))) ∙ test_from_includes new f i)
      where
        d : AddsPlace (cut_of old) (cut_of new)
        d = adds_place old new adds

        no_other : (e ≡ d.0 → ⊥) → ⊥
        no_other differs = out (includes_from_test old e (sym (d.3 e differs) ∙ test_from_includes new e has))

    pub right_before : IsRightBefore c e old
    right_before = (
      record {
        fits = before.fits;
        past = λ f h. others f (λ same. acyclic e (subst (λ (d : Place). HappenedBefore c d e) same h))
            (after.closed f e h has);
        none_after = λ f h i. out (before.closed e f h i);
      },
      out,
    )

    pub right_after : IsRightAfter c e new
    right_after = (
      record {
        fits = after.fits;
        past = λ f h. after.closed f e h has;
        none_after = λ f h i. out (before.closed e f h
            (others f (λ same. acyclic e (subst (λ (d : Place). HappenedBefore c e d) same h)) i));
      },
      has,
    )

  -- an avoiding cut doesn't include an event right before or right after which the cuts satisfy
  pub avoids_before : (test : List ℕ → Bool)
      → ((cut : List ℕ) → IsRightBefore c e cut → test cut ≡ false → ⊥)
      ⊎ ((cut : List ℕ) → IsRightAfter c e cut → test cut ≡ false → ⊥) → (k : ℕ) (cut : List ℕ)
      → IsAvoiding c test k cut → ¬ Includes cut e
  avoids_before test satisfies zero cut a (low, high) =
      let level : IsOfLevel c 0 cut = avoiding_level c test 0 cut a in
      let none : get_or cut e.process 0 ≡ 0 =
      ap (λ (xs : List ℕ). get_or xs e.process 0) (empty_from_sum c cut level.0.fits.one_each level.1)
      ∙ empty_at c e.process in
      omega arith
  avoids_before test satisfies (suc k) cut a i =
      go satisfies (avoids_before test satisfies k w.2.0 w.2.1)
    where
      w : IsConsistent c cut × (test cut ≡ false) × ((old : List ℕ) × IsAvoiding c test k old × AddsEvent old cut)
      w = (next_avoiding c test k cut).0 (subst (λ (n : ℕ). IsAvoiding c test n cut) (sym (add-one k)) a)

      go : ((other : List ℕ) → IsRightBefore c e other → test other ≡ false → ⊥)
          ⊎ ((other : List ℕ) → IsRightAfter c e other → test other ≡ false → ⊥) → ¬ Includes w.2.0 e → ⊥
      go (inl none) out =
          none w.2.0 (right_before w.2.0 cut (avoiding_level c test k w.2.0 w.2.1).0 w.0 w.2.2 out i)
          (avoiding_fails c test k w.2.0 w.2.1)
      go (inr none) out =
          none cut (right_after w.2.0 cut (avoiding_level c test k w.2.0 w.2.1).0 w.0 w.2.2 out i) w.1
