-- Steps up from a cut to one that it is within, the ways that they make, and the cuts on them.
use Rattle.std.proofs.Common.{◌≡◌, ℕ, suc, ◌+◌, ◌-◌, ◌<◌, ◌≤◌, Bool, false, List, [], ◌∷◌, ◌++◌, length, get_or, sum, Contains, refl, sym, ap, ◌∙◌, subst, inl, inr, ◌⊎◌, arith, append_assoc}
use Rattle.std.proofs.lemmas.Bool.{cases_eq, cases_lt}
use Rattle.std.proofs.lemmas.List.{append-nil}
use Rattle.def_model.specs.Answers.{cuts_along}
use Rattle.def_model.specs.Cuts.{IsConsistent, IsOfLevel, empty_cut, full_cut, one_more}
use Rattle.def_model.specs.Events.{Computation, IsEvent}
use Rattle.def_model.specs.Lattice.{IsWithin}
use Rattle.def_model.specs.Laws.{CutBetween}
use Rattle.def_model.specs.Observations.{IsObservation}
use Rattle.def_model.specs.Order.{HasNoCycle}
use Rattle.def_model.specs.Paths.{AvoidsFrom}
use Rattle.def_model.proofs.AvoidingPaths.{avoids_on, avoids_ended}
use Rattle.def_model.proofs.Chains.{events_of_happens}
use Rattle.def_model.proofs.Counts.{in_range, length_more, more_same, more_other, sum_more, sum_le, same_or_below, same_from_sum, full_at, length_full}
use Rattle.def_model.proofs.Steps.{empty_consistent}
use Rattle.pd_evidence.specs.Ways.{GoesUp, IsLeastWay, IsThrough}
use Rattle.pd_evidence.specs.Steps.{AddsWay, IsOnWay}

-- the cut with all events is consistent
pub full_consistent : (c : Computation) → IsConsistent c (full_cut c)
full_consistent c =
    record {
      fits = record { one_each = length_full c; within = λ p. rw full_at (omega arith) };
      closed = λ e f h i. let is : IsEvent c e = (events_of_happens c e f h).0 in (is.0, rw full_at (is.1));
    }

-- one event more of a process that has fewer stays within
pub more_within : (a b : List ℕ) (p : ℕ) → length a ≡ length b → IsWithin a b → get_or a p 0 < get_or b p 0
    → IsWithin (one_more a p) b
more_within a b p long within less q = go (cases_eq q p)
  where
    there : p < length a
    there = let t : p < length b = in_range b p (omega arith) in omega arith

    go : (q ≡ p) ⊎ (q ≡ p → ⊥) → get_or (one_more a p) q 0 ≤ get_or b q 0
    go (inl e) = rw e (let t : get_or (one_more a p) p 0 ≡ get_or a p 0 + 1 = more_same a p there in omega arith)
    go (inr apart) =
        let t : get_or (one_more a p) q 0 ≡ get_or a q 0 = more_other a p q apart in
        let u : get_or a q 0 ≤ get_or b q 0 = within q in
        omega arith

-- Counts above others with a sum one greater have one event more.
adds_one : (a b : List ℕ) → length a ≡ length b → IsWithin a b → sum b ≡ sum a + 1 → (p : ℕ) × (p < length a)
    × (get_or a p 0 < get_or b p 0) × (b ≡ one_more a p)
adds_one a b long within more = go (same_or_below a b long within)
  where
    go : (a ≡ b) ⊎ ((p : ℕ) × (p < length a) × (get_or a p 0 < get_or b p 0)) → (p : ℕ) × (p < length a)
        × (get_or a p 0 < get_or b p 0) × (b ≡ one_more a p)
    go (inl same) = let t : sum a ≡ sum b = ap sum same in absurd (omega arith)
    go (inr (p, lt, less)) = (
      p,
      lt,
      less,
      sym (same_from_sum (one_more a p) b (length_more a p ∙ long) (more_within a b p long within less) (sum_more a p lt
          ∙ sym more)),
    )

module _ (c : Computation) (to : List ℕ) (arrives : IsConsistent c to) where
  one_length : (cut : List ℕ) → IsConsistent c cut → length cut ≡ length to
  one_length cut ok = ok.fits.one_each ∙ sym arrives.fits.one_each

  -- a process that goes up is there
  pub up_there : (cut : List ℕ) (p : ℕ) → IsConsistent c cut → GoesUp c cut to p → p < length cut
  up_there cut p ok goes =
      let lt : get_or cut p 0 < get_or to p 0 = goes.0 in
      let t : p < length to = in_range to p (omega arith) in
      let l : length cut ≡ length to = one_length cut ok in
      omega arith

  -- From a cut within another one with more events some process goes up.
  step_up : CutBetween → HasNoCycle c → (cut : List ℕ) → IsConsistent c cut → IsWithin cut to → sum cut < sum to
      → (p : ℕ) × GoesUp c cut to p
  step_up between acyclic cut ok within less =
      let w : (next : List ℕ) × IsOfLevel c (sum cut + 1) next × IsWithin cut next × IsWithin next to =
      between c acyclic cut to ok arrives within (sum cut + 1) (omega arith) (omega arith) in
      let s : (p : ℕ) × (p < length cut) × (get_or cut p 0 < get_or w.0 p 0) × (w.0 ≡ one_more cut p) =
      adds_one cut w.0 (one_length cut ok ∙ sym (one_length w.0 w.1.0)) w.2 w.1.1 in
      let lt : get_or cut s.0 0 < get_or w.0 s.0 0 = s.2 in
      let le : get_or w.0 s.0 0 ≤ get_or to s.0 0 = w.3 s.0 in
      (s.0, (omega arith, subst (IsConsistent c) s.3 w.1.0))

  -- where none goes up, the cut is the other one
  arrived : CutBetween → HasNoCycle c → (cut : List ℕ) → IsConsistent c cut → IsWithin cut to
      → ((p : ℕ) → ¬ GoesUp c cut to p) → cut ≡ to
  arrived between acyclic cut ok within none = go (cases_lt (sum cut) (sum to))
    where
      go : (sum cut < sum to) ⊎ (sum to ≤ sum cut) → cut ≡ to
      go (inl less) = let s : (p : ℕ) × GoesUp c cut to p = step_up between acyclic cut ok within less in
          absurd (none s.0 s.1)
      go (inr le) =
          let below : sum cut ≤ sum to = sum_le cut to within (one_length cut ok) in
          same_from_sum cut to (one_length cut ok) within (omega arith)

  -- each step leaves less of the way
  pub fewer_left : (cut : List ℕ) (p : ℕ) → IsConsistent c cut → IsWithin cut to → GoesUp c cut to p
      → sum to - sum (one_more cut p) < sum to - sum cut
  fewer_left cut p ok within goes =
      let more : sum (one_more cut p) ≡ sum cut + 1 = sum_more cut p (up_there cut p ok goes) in
      let below : sum (one_more cut p) ≤ sum to =
      sum_le (one_more cut p) to (more_within cut to p (one_length cut ok) within goes.0) (length_more cut p
      ∙ one_length cut ok) in
      omega arith

  -- the beginning of a way, a step, and its end
  pub start_way : (from old : List ℕ) → IsConsistent c from → IsWithin from to → IsOnWay c from to old from old
  start_way from old ok within =
      record { made = []; is = sym (append-nil old); onward = λ rest way. way; consistent = ok; within = within }

  pub more_way : (from old here path : List ℕ) (p : ℕ) → IsOnWay c from to old here path → GoesUp c here to p
      → ((q : ℕ) → q < p → ¬ GoesUp c here to q) → IsOnWay c from to old (one_more here p) (path ++ p ∷ [])
  more_way from old here path p on goes least =
      record {
        made = on.made ++ p ∷ [];
        is = ap (λ (xs : List ℕ). xs ++ p ∷ []) on.is ∙ append_assoc old on.made (p ∷ []);
        onward =
            λ rest way.
            subst (IsLeastWay c from to) (sym (append_assoc on.made (p ∷ []) rest)) (on.onward (p ∷ rest) (
              goes,
              least,
              way,
            ));
        consistent = goes.1;
        within = more_within here to p (one_length here on.consistent) on.within goes.0;
      }

  pub end_way : (from old here path : List ℕ) → IsOnWay c from to old here path → here ≡ to → AddsWay c from to old path
  end_way from old here path on same =
      record {
        made = on.made;
        is = on.is;
        way = subst (IsLeastWay c from to) (append-nil on.made) (on.onward [] same);
      }

  pub none_left : CutBetween → HasNoCycle c → (from old here path : List ℕ) → IsOnWay c from to old here path
      → ((p : ℕ) → ¬ GoesUp c here to p) → here ≡ to
  none_left between acyclic from old here path on none =
      arrived between acyclic here on.consistent on.within none

-- a way to the full cut is a walk there: with no test that a cut could pass
no_test : List ℕ → Bool
no_test cut = false

on_observed : (c : Computation) (cut path : List ℕ) → IsConsistent c cut → IsLeastWay c cut (full_cut c) path
    → AvoidsFrom c no_test cut path
unfolding no_test
on_observed c cut [] ok full = (avoids_ended c no_test cut (ok, refl)).1 full
on_observed c cut (p ∷ rest) ok (goes, least, way) =
    (avoids_on c no_test cut p rest (ok, refl)).1 (
      up_there c (full_cut c) (full_consistent c) cut p ok goes,
      on_observed c (one_more cut p) rest goes.1 way,
    )

-- with a way to a cut before it, it is a walk that has that cut
through_observed : (c : Computation) (from cut up on : List ℕ) → IsConsistent c from → IsConsistent c cut
    → IsLeastWay c from cut up → IsLeastWay c cut (full_cut c) on → AvoidsFrom c no_test from (up ++ on)
    × Contains (cuts_along from (up ++ on)) cut
unfolding no_test
through_observed c from cut [] on begins ok same way =
    subst (λ (x : List ℕ). AvoidsFrom c no_test x on × Contains (cuts_along x on) cut) (sym same) (
      on_observed c cut on ok way,
      first_in on,
    )
  where
    first_in : (on : List ℕ) → Contains (cuts_along cut on) cut
    first_in [] = (0, omega arith, refl)
    first_in (p ∷ rest) = (0, omega arith, refl)
through_observed c from cut (p ∷ up) on begins ok (goes, least, rest) way =
    let r : AvoidsFrom c no_test (one_more from p) (up ++ on)
    × Contains (cuts_along (one_more from p) (up ++ on)) cut =
    through_observed c (one_more from p) cut up on goes.1 ok rest way in
    let lt : r.1.0 < length (cuts_along (one_more from p) (up ++ on)) = r.1.1 in (
      (avoids_on c no_test from p (up ++ on) (begins, refl)).1 (up_there c cut ok from p begins goes, r.0),
      (suc r.1.0, omega arith, r.1.2),
    )

-- A path through a cut is that of an observation that has the cut.
pub observed_through : (c : Computation) (cut path : List ℕ) → IsConsistent c cut → IsThrough c cut path
    → IsObservation c (cuts_along (empty_cut c) path) × Contains (cuts_along (empty_cut c) path) cut
observed_through c cut path ok (up, on, is, before, after) =
    let r : AvoidsFrom c no_test (empty_cut c) (up ++ on) × Contains (cuts_along (empty_cut c) (up ++ on)) cut =
    through_observed c (empty_cut c) cut up on (empty_consistent c) ok before after in
    subst (λ (x : List ℕ). IsObservation c (cuts_along (empty_cut c) x) × Contains (cuts_along (empty_cut c) x) cut)
    (sym is) (r.0.0, r.1)
