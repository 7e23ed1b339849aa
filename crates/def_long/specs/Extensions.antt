-- Linear extensions of happened-before among the kept events of a window: what is left of an observation.
use Rattle.std.specs.Prelude.{◌↔◌, ℕ, ◌≤◌, Bool, false, ◌&&◌, ◌||◌, nat_eq, List, [], ◌∷◌, take, length, Contains, AllPairs}
use Rattle.def_model.specs.Events.{Place}
use Rattle.def_model.specs.Order.{IsUpTo}
use Rattle.def_long.specs.Windows.{Window}
use Rattle.def_long.specs.Kept.{IsKept, AreKeptIn, DownSetSatisfies}

-- the set of the places of a list
abbrev pub is_among : List Place → Place → Bool
is_among [] e = false
is_among (d ∷ rest) e = (nat_eq d.process e.process && nat_eq d.number e.number) || is_among rest e

-- A linear extension lists the kept events so that none is one that came earlier in the list, or happened before it.
pub record IsExtension (w : Window) (kept : Place → Bool) (order : List Place) : Type 0 where
  pub just : (e : Place) → Contains order e ↔ IsKept w kept e
  pub ordered : AllPairs (λ (e f : Place). ¬ IsUpTo w.run f e) order

-- the first events of a linear extension, up to some number of them, are a down-set that satisfies
abbrev pub PassesSatisfying : Window → (List ℕ → Bool) → List Place → Type 0
PassesSatisfying w test order = (k : ℕ) × (k ≤ length order) × DownSetSatisfies w test (is_among (take k order))

-- A walk follows a linear extension if the kept events of each of its cuts are the first ones of the extension, up to
-- some number of them, and each number is that of some cut.
pub record Follows (w : Window) (kept : Place → Bool) (cuts : List (List ℕ)) (order : List Place) : Type 0 where
  pub each_cut : (cut : List ℕ) → Contains cuts cut
      → (k : ℕ) × (k ≤ length order) × AreKeptIn w kept cut (is_among (take k order))
  pub each_number : (k : ℕ) → k ≤ length order
      → (cut : List ℕ) × Contains cuts cut × AreKeptIn w kept cut (is_among (take k order))
