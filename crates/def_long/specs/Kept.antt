-- The events of a window that are kept, and what is left of the window's cuts if only these are seen: the down-sets of
-- happened-before among them. `test` says whether a cut satisfies, and `kept` whether the event at a place is kept.
use Rattle.std.specs.Prelude.{◌≡◌, ◌↔◌, ℕ, ◌+◌, ◌<◌, Bool, true, false, IsTrue, List, length, slice_index}
use Rattle.def_model.specs.Events.{Place, place}
use Rattle.def_model.specs.Order.{HappenedBefore}
use Rattle.def_model.specs.Cuts.{Includes, one_more}
use Rattle.def_model.specs.Lattice.{IsWithin}
use Rattle.def_long.specs.Windows.{Window, IsCutIn}

-- the event is kept, and in the cut, and not in the window's first one
pub record IsKeptIn (w : Window) (kept : Place → Bool) (cut : List ℕ) (e : Place) : Type 0 where
  pub is_kept : IsTrue (kept e)
  pub after : ¬ Includes w.from e
  pub before : Includes cut e

-- one of the window's kept events
abbrev pub IsKept : Window → (Place → Bool) → Place → Type 0
IsKept w kept e = IsKeptIn w kept w.to e

-- the kept events decide: one event more that isn't kept changes no truth
abbrev pub KeptDecide : Window → (Place → Bool) → (List ℕ → Bool) → Type 0
KeptDecide w kept test =
    (cut : List ℕ) (p : ℕ) → p < length cut → IsCutIn w cut → IsCutIn w (one_more cut p)
    → kept (place p (slice_index cut p + 1)) ≡ false → test (one_more cut p) ≡ test cut

-- A set of events is a test on places. This one has the kept events of the cut, and no others.
abbrev pub AreKeptIn : Window → (Place → Bool) → List ℕ → (Place → Bool) → Type 0
AreKeptIn w kept cut part = (e : Place) → IsTrue (part e) ↔ IsKeptIn w kept cut e

-- A down-set has kept events alone, and with one of them each that happened before it.
pub record IsDownSet (w : Window) (kept part : Place → Bool) : Type 0 where
  pub kept_alone : (e : Place) → IsTrue (part e) → IsKept w kept e
  pub closed : (e f : Place) → IsKept w kept e → HappenedBefore w.run e f → IsTrue (part f) → IsTrue (part e)

-- the least cut in the window that has the events of a set
pub record IsLeastWith (w : Window) (part : Place → Bool) (cut : List ℕ) : Type 0 where
  pub in_window : IsCutIn w cut
  pub has : (e : Place) → IsTrue (part e) → Includes cut e
  pub least : (other : List ℕ) → IsCutIn w other → ((e : Place) → IsTrue (part e) → Includes other e)
      → IsWithin cut other

-- The state at a down-set is that at the least cut that has it, so it satisfies exactly if that cut does.
abbrev pub DownSetSatisfies : Window → (List ℕ → Bool) → (Place → Bool) → Type 0
DownSetSatisfies w test part = (cut : List ℕ) × IsLeastWith w part cut × (test cut ≡ true)
