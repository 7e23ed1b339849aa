-- The laws of orders, stated for all runs, of any number of processes and events.
use Rattle.std.specs.Prelude.{◌≡◌, ◌↔◌, ℕ, ◌≤◌, List, length}
use Rattle.def_model.specs.Observations.{Definitely, Possibly}
use Rattle.def_model.specs.Order.{HasNoCycle}
use Rattle.def_model.specs.Predicates.{Predicate, Recorded, test_of}
use Rattle.def_long.specs.Renamed.{renamed}
use Rattle.def_orders.specs.Orders.{IsOrderOf, IsOver, ProcessOrder}
use Rattle.def_orders.specs.Selections.{HaveOnePart, numbers_in}

-- A run has one order.
abbrev pub OrderIsSingle : Type 0
OrderIsSingle =
    (r : Recorded) (named : List (List ℕ)) (order other : List ProcessOrder) → IsOrderOf r named order
    → IsOrderOf r named other → order ≡ other

-- the same is seen of two runs that begin with the same values
pub record HaveOneOrder (r r' : Recorded) (named : List (List ℕ)) (order : List ProcessOrder) : Type 0 where
  pub some : 1 ≤ length r.events
  pub as_many : length r.events ≡ length r'.events
  pub same_initial : r.initial ≡ r'.initial
  pub no_cycle : HasNoCycle r.events
  pub no_cycle' : HasNoCycle r'.events
  pub first : IsOrderOf r named order
  pub second : IsOrderOf r' named order

-- Runs of one order have the same answers for each predicate of which all variables are seen.
abbrev pub PossiblyOfOrder : Type 0
PossiblyOfOrder =
    (r r' : Recorded) (named : List (List ℕ)) (order : List ProcessOrder) (predicate : Predicate)
    → HaveOneOrder r r' named order → IsOver named predicate
    → Possibly r.events (test_of r predicate) ↔ Possibly r'.events (test_of r' predicate)

abbrev pub DefinitelyOfOrder : Type 0
DefinitelyOfOrder =
    (r r' : Recorded) (named : List (List ℕ)) (order : List ProcessOrder) (predicate : Predicate)
    → HaveOneOrder r r' named order → IsOver named predicate
    → Definitely r.events (test_of r predicate) ↔ Definitely r'.events (test_of r' predicate)

-- If a second run has the processes of a first one of which something is seen, and the same is seen of these, each
-- predicate of which all variables are seen has the same answers there, under the numbers that its processes have.
abbrev pub PossiblyOfPart : Type 0
PossiblyOfPart =
    (r r' : Recorded) (places : List ℕ) (named : List (List ℕ)) (order part : List ProcessOrder)
    (predicate predicate' : Predicate) → HaveOnePart r r' places named order part → IsOver named predicate
    → renamed (numbers_in places (length r.events)) predicate' ≡ predicate
    → Possibly r.events (test_of r predicate) ↔ Possibly r'.events (test_of r' predicate')

abbrev pub DefinitelyOfPart : Type 0
DefinitelyOfPart =
    (r r' : Recorded) (places : List ℕ) (named : List (List ℕ)) (order part : List ProcessOrder)
    (predicate predicate' : Predicate) → HaveOnePart r r' places named order part → IsOver named predicate
    → renamed (numbers_in places (length r.events)) predicate' ≡ predicate
    → Definitely r.events (test_of r predicate) ↔ Definitely r'.events (test_of r' predicate')
