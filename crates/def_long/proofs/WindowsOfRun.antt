-- A run that falls into windows has an answer exactly if some window has it.
use Rattle.std.proofs.Common.{◌≡◌, ℕ, suc, ◌≤◌, Bool, List, [], ◌∷◌, ◌++◌, get_or, All, inl, inr, ◌⊎◌, ◌↔◌, arith}
use Rattle.def_model.specs.Events.{Computation, Linked, Place}
use Rattle.def_model.specs.Order.{HasNoCycle}
use Rattle.def_model.specs.Cuts.{Includes, IsConsistent, empty_cut, full_cut}
use Rattle.def_model.specs.Lattice.{IsWithin}
use Rattle.def_model.specs.Observations.{Definitely, Possibly}
use Rattle.def_model.proofs.Counts.{empty_at, full_at}
use Rattle.def_model.proofs.Steps.{empty_consistent}
use Rattle.def_long.specs.Windows.{Window, window, whole, IsCutIn, IsWindow, PossiblyIn, DefinitelyIn}
use Rattle.def_long.specs.Kept.{KeptDecide}
use Rattle.def_long.specs.Boundaries.{IsBoundary, OfSomeWindow, OfSomePart}
use Rattle.def_long.proofs.Parts.{definitely_by_parts, possibly_by_parts}
use Rattle.def_long.proofs.WindowCuts.{full_consistent, in_whole, possibly_in_whole}

module _ (c : Computation) (acyclic : HasNoCycle c) (kept : Place → Bool) where
  -- what is said of the window from a cut on falls at each boundary above it
  abbrev Falls : (Window → Type 0) → Type 0
  Falls P =
      (a b : List ℕ) → IsWindow (window c a (full_cut c)) → IsBoundary (window c a (full_cut c)) kept b
      → P (window c a (full_cut c)) ↔ (P (window c a b) ⊎ P (window c b (full_cut c)))

  from_here : (a : List ℕ) → IsConsistent c a → IsWindow (window c a (full_cut c))
  from_here a ok = record {
    no_cycle = acyclic;
    first = record {
      consistent = ok;
      above = λ p. omega arith;
      below = λ p. rw full_at (ok.fits.within p);
    };
    last = record {
      consistent = full_consistent c;
      above = λ p. rw full_at (ok.fits.within p);
      below = λ p. omega arith;
    };
  }

  cut_of_whole : (a x : List ℕ) → IsCutIn (window c a (full_cut c)) x → IsCutIn (whole c) x
  cut_of_whole a x in_x = in_whole c x in_x.consistent

  -- a boundary of the run is one of the window from a cut within it
  boundary_above : (a b : List ℕ) → IsWithin a b → IsBoundary (whole c) kept b
      → IsBoundary (window c a (full_cut c)) kept b
  boundary_above a b within at = record {
    in_window = record {
      consistent = at.in_window.consistent;
      above = within;
      below = at.in_window.below;
    };
    order = λ e f i k out. at.order e f
        (record { is_kept = i.is_kept; after = not_empty e; before = i.before })
        (record { is_kept = k.is_kept; after = not_empty f; before = k.before }) out;
  }
    where
      not_empty : (e : Place) → Includes (empty_cut c) e → ⊥
      not_empty e i =
          let low : 1 ≤ e.number = i.0 in
          let high : e.number ≤ get_or (empty_cut c) e.process 0 = i.1 in
          let none : get_or (empty_cut c) e.process 0 ≡ 0 = empty_at c e.process in
          omega arith

  some_window : (P : Window → Type 0) → Falls P → (boundaries : List (List ℕ)) (a : List ℕ) → IsConsistent c a
      → All (IsBoundary (whole c) kept) boundaries → Linked IsWithin (a ∷ boundaries)
      → P (window c a (full_cut c)) ↔ OfSomeWindow P c (a ∷ (boundaries ++ full_cut c ∷ []))
  some_window P falls [] a ok all linked = (λ h. inl h, back)
    where
      back : P (window c a (full_cut c)) ⊎ ⊥ → P (window c a (full_cut c))
      back (inl h) = h
      back (inr none) = absurd none
  some_window P falls (b ∷ rest) a ok all linked =
      go (falls a b (from_here a ok) (boundary_above a b linked.0 at))
      (some_window P falls rest b at.in_window.consistent (λ i d lt. all (suc i) d (omega arith)) linked.1)
    where
      at : IsBoundary (whole c) kept b
      at = all 0 b (omega arith)

      go : P (window c a (full_cut c)) ↔ (P (window c a b) ⊎ P (window c b (full_cut c)))
          → P (window c b (full_cut c)) ↔ OfSomeWindow P c (b ∷ (rest ++ full_cut c ∷ []))
          → P (window c a (full_cut c))
          ↔ (P (window c a b) ⊎ OfSomeWindow P c (b ∷ (rest ++ full_cut c ∷ [])))
      go here later = (λ h. to (here.0 h), λ s. here.1 (from s))
        where
          to : P (window c a b) ⊎ P (window c b (full_cut c))
              → P (window c a b) ⊎ OfSomeWindow P c (b ∷ (rest ++ full_cut c ∷ []))
          to (inl first) = inl first
          to (inr last) = inr (later.0 last)

          from : P (window c a b) ⊎ OfSomeWindow P c (b ∷ (rest ++ full_cut c ∷ []))
              → P (window c a b) ⊎ P (window c b (full_cut c))
          from (inl first) = inl first
          from (inr last) = inr (later.1 last)

  linked_from_empty : (boundaries : List (List ℕ)) → Linked IsWithin boundaries
      → Linked IsWithin (empty_cut c ∷ boundaries)
  linked_from_empty [] linked = tt
  linked_from_empty (b ∷ rest) linked = (λ p. rw empty_at (omega arith), linked)

  module _ (test : List ℕ → Bool) (decide : KeptDecide (whole c) kept test) where
    decide_above : (a : List ℕ) → KeptDecide (window c a (full_cut c)) kept test
    decide_above a cut p there before after out =
        decide cut p there (cut_of_whole a cut before) (cut_of_whole a _ after) out

    pub possibly_of_run : (boundaries : List (List ℕ)) → All (IsBoundary (whole c) kept) boundaries
        → Linked IsWithin boundaries → Possibly c test ↔ OfSomePart (λ w. PossiblyIn w test) c boundaries
    possibly_of_run boundaries all linked = (λ h. parts.0 (run.0 h), λ s. run.1 (parts.1 s))
      where
        run : Possibly c test ↔ PossiblyIn (whole c) test
        run = possibly_in_whole c test

        parts : PossiblyIn (whole c) test
            ↔ OfSomeWindow (λ w. PossiblyIn w test) c (empty_cut c ∷ (boundaries ++ full_cut c ∷ []))
        parts =
            some_window (λ w. PossiblyIn w test)
            (λ a b is at. possibly_by_parts (window c a (full_cut c)) is kept b at test (decide_above a)) boundaries
            (empty_cut c) (empty_consistent c) all (linked_from_empty boundaries linked)

    pub definitely_of_run : (boundaries : List (List ℕ)) → All (IsBoundary (whole c) kept) boundaries
        → Linked IsWithin boundaries → Definitely c test ↔ OfSomePart (λ w. DefinitelyIn w test) c boundaries
    definitely_of_run boundaries all linked =
        some_window (λ w. DefinitelyIn w test)
        (λ a b is at. definitely_by_parts (window c a (full_cut c)) is kept b at test (decide_above a)) boundaries
        (empty_cut c) (empty_consistent c) all (linked_from_empty boundaries linked)
