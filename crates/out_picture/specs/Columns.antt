-- The columns in which events stand: an event's column is the length of the longest chain that ends in it.
use Rattle.std.specs.Prelude.{◌≡◌, ℕ, ◌+◌, ◌<◌, ◌≤◌, List, [], ◌∷◌, ◌++◌, length}
use Rattle.def_model.specs.Events.{Computation, Place, IsEvent, Linked}
use Rattle.def_model.specs.Order.{HappenedBefore, LeadsTo}

-- These places and then e are a chain: each leads to the next.
abbrev pub IsChainTo : Computation → Place → List Place → Type 0
IsChainTo c e before = Linked (LeadsTo c) (before ++ e ∷ [])

-- n is the number of events in the longest chain that ends in e
pub record IsColumn (c : Computation) (e : Place) (n : ℕ) : Type 0 where
  pub before : List Place
  pub chain : IsChainTo c e before
  pub length_is : length before + 1 ≡ n
  pub longest : (other : List Place) → IsChainTo c e other → length other + 1 ≤ n

-- the column of each event
abbrev pub AreColumns : Computation → (Place → ℕ) → Type 0
AreColumns c columns = (e : Place) → IsEvent c e → IsColumn c e (columns e)

-- each event stands right of all that happened before it
abbrev pub StandRight : Computation → (Place → ℕ) → Type 0
StandRight c columns = (d e : Place) → HappenedBefore c d e → columns d < columns e

-- the law of columns
abbrev pub ColumnsStandRight : Type 0
ColumnsStandRight = (c : Computation) (columns : Place → ℕ) → AreColumns c columns → StandRight c columns
