-- Cuts by which a window falls into parts that are judged by themselves.
use Rattle.std.specs.Prelude.{ℕ, ◌⊎◌, Bool, List, [], ◌∷◌, ◌++◌}
use Rattle.def_model.specs.Events.{Computation, Place}
use Rattle.def_model.specs.Order.{HappenedBefore}
use Rattle.def_model.specs.Cuts.{Includes, empty_cut, full_cut}
use Rattle.def_long.specs.Windows.{Window, window, IsCutIn}
use Rattle.def_long.specs.Kept.{IsKept, IsKeptIn}

-- A boundary: each kept event in the cut happened before each one outside it.
pub record IsBoundary (w : Window) (kept : Place → Bool) (cut : List ℕ) : Type 0 where
  pub in_window : IsCutIn w cut
  pub order : (e f : Place) → IsKeptIn w kept cut e → IsKept w kept f → ¬ Includes cut f
      → HappenedBefore w.run e f

-- P holds of the window from some cut of the list to the next one.
abbrev pub OfSomeWindow : (Window → Type 0) → Computation → List (List ℕ) → Type 0
OfSomeWindow P c [] = ⊥
OfSomeWindow P c (a ∷ []) = ⊥
OfSomeWindow P c (a ∷ b ∷ rest) = P (window c a b) ⊎ OfSomeWindow P c (b ∷ rest)

-- P holds of some window of a run that falls into windows at these cuts.
abbrev pub OfSomePart : (Window → Type 0) → Computation → List (List ℕ) → Type 0
OfSomePart P c boundaries = OfSomeWindow P c (empty_cut c ∷ boundaries ++ full_cut c ∷ [])
