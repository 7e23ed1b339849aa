-- Cuts by their prefix, which is the counts of all processes but the last two; at which levels a prefix is alive, where
-- it is born, and the cuts that a level is searched at for those born at the next one. A level is a number of events.
use Rattle.std.specs.Prelude.{◌≡◌, ℕ, suc, ◌+◌, ◌<◌, ◌≤◌, List, length, slice_index}
use Rattle.def_model.specs.Events.{Computation, Place, place, IsEvent}
use Rattle.def_model.specs.Messages.{IsMessage}
use Rattle.def_model.specs.Order.{HasNoCycle}
use Rattle.def_model.specs.Cuts.{Includes, IsConsistent, IsOfLevel, one_less, one_more}
use Rattle.walk_keys.specs.Neighbors.{cut_at}

-- each receipt has one send
abbrev pub HasOneSend : Computation → Type 0
HasOneSend c = (send other receipt : Place) → IsMessage c send receipt → IsMessage c other receipt → send ≡ other

-- what the laws of births ask of a computation: no causal cycle, and one send for each receipt
pub record IsWalkable (c : Computation) : Type 0 where
  pub no_cycle : HasNoCycle c
  pub one_send : HasOneSend c

-- x is in the interval of the prefix at level k
abbrev pub IsInInterval : Computation → ℕ → List ℕ → ℕ → Type 0
IsInInterval c k prefix x = (y : ℕ) × IsOfLevel c k (cut_at prefix x y)

-- the prefix is alive at level k: its interval there isn't empty
abbrev pub IsAlive : Computation → ℕ → List ℕ → Type 0
IsAlive c k prefix = (x : ℕ) × IsInInterval c k prefix x

-- the prefix is young at level k: alive there, and not at the level before, if there is one
pub record IsYoung (c : Computation) (k : ℕ) (prefix : List ℕ) : Type 0 where
  pub alive : IsAlive c k prefix
  pub before : (j : ℕ) → j + 1 ≡ k → ¬ IsAlive c j prefix

-- the greatest and the least number of the interval
pub record IsGreatest (c : Computation) (k : ℕ) (prefix : List ℕ) (hi : ℕ) : Type 0 where
  pub inside : IsInInterval c k prefix hi
  pub most : (x : ℕ) → IsInInterval c k prefix x → x ≤ hi

pub record IsLeast (c : Computation) (k : ℕ) (prefix : List ℕ) (lo : ℕ) : Type 0 where
  pub inside : IsInInterval c k prefix lo
  pub least : (x : ℕ) → IsInInterval c k prefix x → lo ≤ x

-- the place is a send that a process of the prefix receives
abbrev pub IsReceivedBelow : Computation → ℕ → Place → Type 0
IsReceivedBelow c processes send =
    (p n : ℕ) × (p < processes) × IsMessage c send (place p n)

-- hi is the greatest x at level k, one greater than at the level before, and event hi of the last process but one is a
-- send that a process of the prefix receives
pub record IsTop (c : Computation) (k : ℕ) (prefix : List ℕ) (hi : ℕ) : Type 0 where
  pub greatest : IsGreatest c k prefix hi
  pub before : (j x : ℕ) × (j + 1 ≡ k) × (x + 1 ≡ hi) × IsGreatest c j prefix x
  pub sends : IsReceivedBelow c (length prefix) (place (length prefix) hi)

-- lo is the least x at level k, and was at the level before, and the last process's event y is a send that a process of
-- the prefix receives, y being the count that stands beside lo
pub record IsLow (c : Computation) (k : ℕ) (prefix : List ℕ) (lo y : ℕ) : Type 0 where
  pub beside : IsOfLevel c k (cut_at prefix lo y)
  pub least : IsLeast c k prefix lo
  pub before : (j : ℕ) × (j + 1 ≡ k) × IsLeast c j prefix lo
  pub sends : IsReceivedBelow c (length prefix) (place (suc (length prefix)) y)

-- the next event of process p after the cut
abbrev pub next_of : List ℕ → ℕ → Place
next_of cut p = place p (slice_index cut p + 1)

-- the event is there, and its need is met at the cut: where it is a receipt, its send is in the cut
abbrev pub IsMetAt : Computation → List ℕ → Place → Type 0
IsMetAt c cut e = IsEvent c e × ((send : Place) → IsMessage c send e → Includes cut send)

-- The candidates for prefixes that are born at level k + 1. Each is made at a cut of level k, of which x and y are the
-- last two counts, by the next event of a process of the prefix: where the prefix is young, each that may happen at its
-- cut; at the greatest x where that is flagged, each that receives what event x sends; and likewise at the least x.
pub data IsCandidate (c : Computation) (k : ℕ) (new : List ℕ) : Type 0 where
  from_young : (prefix : List ℕ) (x y p : ℕ) → IsYoung c k prefix → IsOfLevel c k (cut_at prefix x y)
      → p < length prefix → IsMetAt c (cut_at prefix x y) (next_of (cut_at prefix x y) p)
      → new ≡ one_more (cut_at prefix x y) p → IsCandidate c k new
  from_top : (prefix : List ℕ) (x y p : ℕ) → IsTop c k prefix x → IsOfLevel c k (cut_at prefix x y) → p < length prefix
      → IsMessage c (place (length prefix) x) (next_of (cut_at prefix x y) p) → new ≡ one_more (cut_at prefix x y) p
      → IsCandidate c k new
  from_low : (prefix : List ℕ) (x y p : ℕ) → IsLow c k prefix x y → p < length prefix
      → IsMessage c (place (suc (length prefix)) y) (next_of (cut_at prefix x y) p)
      → new ≡ one_more (cut_at prefix x y) p → IsCandidate c k new

-- the last event of process q in the cut can be undone
pub record IsUndoable (c : Computation) (cut : List ℕ) (q : ℕ) : Type 0 where
  pub within : q < length c
  pub some : 0 < slice_index cut q
  pub less : IsConsistent c (one_less cut q)

-- so can that of a process after p: the cut is made by an event of that one, too
abbrev pub IsMadeLater : Computation → List ℕ → ℕ → Type 0
IsMadeLater c cut p = (q : ℕ) × (p < q) × IsUndoable c cut q
