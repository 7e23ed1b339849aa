-- Windows of a run, and what Possibly and Definitely mean in one. `test` says whether a cut satisfies.
use Rattle.std.specs.Prelude.{◌≡◌, ℕ, Bool, true, List}
use Rattle.def_model.specs.Events.{Computation}
use Rattle.def_model.specs.Order.{HasNoCycle}
use Rattle.def_model.specs.Cuts.{IsConsistent, empty_cut, full_cut}
use Rattle.def_model.specs.Lattice.{IsWithin}
use Rattle.def_model.specs.Observations.{IsWalk, HasSatisfying}

-- A window is what happens in a run from one cut to another.
pub record Window : Type 0 where
  pub run : Computation
  pub from : List ℕ
  pub to : List ℕ

abbrev pub window : Computation → List ℕ → List ℕ → Window
window run from to = record { run = run; from = from; to = to }

-- The whole run is a window: from the cut with no event to the cut with all.
abbrev pub whole : Computation → Window
whole run = window run (empty_cut run) (full_cut run)

-- the cut is consistent, has all events of the window's first cut, and has no others than those of its last one
pub record IsCutIn (w : Window) (cut : List ℕ) : Type 0 where
  pub consistent : IsConsistent w.run cut
  pub above : IsWithin w.from cut
  pub below : IsWithin cut w.to

-- No event of the run happened before itself, and the window is from a consistent cut to one that has all its events.
pub record IsWindow (w : Window) : Type 0 where
  pub no_cycle : HasNoCycle w.run
  pub first : IsCutIn w w.from
  pub last : IsCutIn w w.to

-- some cut in the window satisfies
abbrev pub PossiblyIn : Window → (List ℕ → Bool) → Type 0
PossiblyIn w test = (cut : List ℕ) × IsCutIn w cut × (test cut ≡ true)

-- every walk from the window's first cut to its last one has a satisfying cut
abbrev pub DefinitelyIn : Window → (List ℕ → Bool) → Type 0
DefinitelyIn w test = (cuts : List (List ℕ)) → IsWalk w.run w.from cuts w.to → HasSatisfying test cuts
