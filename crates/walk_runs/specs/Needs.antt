-- What an event needs of a cut, and what is looked up of a computation.
use Rattle.std.specs.Prelude.{◌≡◌, ◌↔◌, ℕ, ◌+◌, ◌-◌, ◌<◌, ◌≤◌, IsTrue, List, [], length, map, slice_index, slice_index_or, Vec}
use Rattle.std.specs.Global.{Global}
use Rattle.walk_keys.specs.Words.{has_bit}
use Rattle.def_model.specs.Events.{Computation, Place, place, event_count}
use Rattle.def_model.specs.Messages.{IsMessage}
use Rattle.def_model.specs.Cuts.{IsConsistent, one_more}
use Rattle.walk_runs.specs.declared.need.Need.{Need}

-- The event that comes after the first n ones of process p can be added to a cut with these exactly if the cut has the
-- first m events of process q. A send that the event receives is the last of these, and if the last of these is an
-- event, it is such a send.
pub record IsNeed (c : Computation) (p n q m : ℕ) : Type 0 where
  pub within : q < length c
  pub met : (cut : List ℕ) → IsConsistent c cut → slice_index cut p ≡ n
      → (m ≤ slice_index cut q) ↔ IsConsistent c (one_more cut p)
  pub sends : (send : Place) → IsMessage c send (place p (n + 1)) → send ≡ place q m
  pub sent : 0 < m → m ≤ event_count c q → IsMessage c (place q m) (place p (n + 1))

-- the row has the needs of the first n events of process p
pub record HasNeeds (c : Computation) (p n : ℕ) (row : List Need) : Type 0 where
  pub same : length row ≡ n
  pub right : (k : ℕ) (none : Need) → k < n
      → IsNeed c p k (slice_index_or row k none).process (slice_index_or row k none).number

-- the same of all events of the first n processes, and of one event behind the last
pub record AreNeeds (c : Computation) (n : ℕ) (rows : List (Vec Need Global)) : Type 0 where
  pub same : length rows ≡ n
  pub each : (p : ℕ) (none : Vec Need Global) → p < n
      → HasNeeds c p (event_count c p + 1) (slice_index_or rows p none).items

-- process p is one of the first n, and receives this event
abbrev pub IsReceiver : Computation → ℕ → Place → ℕ → Type 0
IsReceiver c n send p = (p < n) × ((m : ℕ) × IsMessage c send (place p m))

-- the word has a bit for each of the first n processes that receives this event, and no other
abbrev pub AreReceivers : Computation → ℕ → Place → ℕ → Type 0
AreReceivers c n send word = (p : ℕ) → IsTrue (has_bit word p) ↔ IsReceiver c n send p

-- of process q there is a word for each number of events: which of the first n processes receive the last of these
pub record HasReceivers (c : Computation) (n q : ℕ) (words : List ℕ) : Type 0 where
  pub same : length words ≡ event_count c q + 1
  pub exact : (number : ℕ) → number ≤ event_count c q
      → AreReceivers c n (place q number) (slice_index_or words number 0)

-- the same of each of the first k processes
pub record HaveReceivers (c : Computation) (n k : ℕ) (table : List (List ℕ)) : Type 0 where
  pub same : length table ≡ k
  pub each : (q : ℕ) → q < k → HasReceivers c n q (slice_index_or table q [])

-- a table of words as lists of numbers
abbrev pub table_view : List (Vec ℕ Global) → List (List ℕ)
table_view rows = map (λ (row : Vec ℕ Global). row.items) rows

-- what is looked up of a computation of two processes or more
pub record IsSteps (c : Computation) (needs : List (Vec Need Global)) (receivers : List (Vec ℕ Global)) : Type 0 where
  pub two : 2 ≤ length c
  pub each : AreNeeds c (length c) needs
  pub have : HaveReceivers c (length c - 2) (length c) (table_view receivers)
