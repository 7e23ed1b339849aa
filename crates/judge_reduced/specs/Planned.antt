-- How far the events of a process are made.
use Rattle.std.specs.Prelude.{Bool, true, false, ◌∷◌, ◌++◌, ◌≡◌, ◌≢◌, ◌↔◌, ℕ, suc, ◌<◌, ◌≤◌, List, [], All, AllPairs, Contains, Some, length, slice_index, slice_index_or}
use Rattle.def_format.specs.Names.{ProcessNames}
use Rattle.def_format.specs.ReadingLaws.{FitsProcess}
use Rattle.def_format.specs.Limits.{event_limit}
use Rattle.def_format.specs.Names.{vars_of}
use Rattle.def_model.specs.Events.{Computation, Event, IsEvent, Receive, Send, numbered, place}
use Rattle.std.specs.Prelude.{slice_set, slice_get, ℤ}
use Rattle.judge_reduced.specs.SettingLists.{AreSettings}
use Rattle.read_traces.specs.declared.event.Trace.{Trace}
use Rattle.def_model.specs.Order.{HappenedBefore}
use Rattle.def_model.specs.Predicates.{Recorded}
use Rattle.judge_reduced.specs.Plans.{HasNoneBetween, IsImage, IsReceipt, IsReceivedUpTo, kept_place, message_id}

-- The numbers of each process ascend, and are those of events.
pub record AreListed (c : Computation) (numbers : List (List ℕ)) : Type 0 where
  pub ascend : (p : ℕ) → AllPairs (λ (m n : ℕ). m < n) (slice_index_or numbers p [])
  pub events : (p : ℕ) → All (λ n. IsEvent c (place p n)) (slice_index_or numbers p [])

-- The first kept events of process q, this many, happened before the kept event of process p of this rank, and no
-- others.
pub record IsKnown (r : Recorded) (numbers : List (List ℕ)) (p i q count : ℕ) : Type 0 where
  pub there : count ≤ length (slice_index_or numbers q [])
  pub just : (j : ℕ) → j < length (slice_index_or numbers q [])
      → (j < count) ↔ HappenedBefore r.events (kept_place numbers q j) (kept_place numbers p i)

-- The events are there up to the image of the kept event before the one of rank i, and perhaps some receipts for that.
-- Of each other process it is known how many of its kept events are up to the last one whose message was received.
pub record IsPlanned (names : List ProcessNames) (r : Recorded) (vars : List ℕ) (numbers : List (List ℕ)) (p i : ℕ)
    (events : List Event) (last : List ℕ) : Type 0 where
  pub places : List ℕ
  pub as_many : length places ≡ i
  pub long : length last ≡ length numbers
  pub ascend : AllPairs (λ (m n : ℕ). m < n) places
  pub within : All (λ n. n ≤ length events) places
  pub images : (k : ℕ) → k < length places → (event : Event) × (numbered events (slice_index places k) ≡ Some event)
      × IsImage r vars numbers p k event
  pub receipts : (n : ℕ) (event : Event) → numbered events n ≡ Some event → ¬ Contains places n
      → IsReceipt r numbers p events places n event
  pub needed : (l q k : ℕ) → l < length places → q ≢ p → k < length (slice_index_or numbers q [])
      → HappenedBefore r.events (kept_place numbers q k) (kept_place numbers p l)
      → ((j : ℕ) → j < length (slice_index_or numbers q [])
      → HappenedBefore r.events (kept_place numbers q j) (kept_place numbers p l) → j ≤ k)
      → HasNoneBetween r numbers q k p l → IsReceivedUpTo events (slice_index places l) (message_id q k)
  pub known : (q j l : ℕ) → q ≢ p → i ≤ l → l < length (slice_index_or numbers p [])
      → j < length (slice_index_or numbers q []) → j < slice_index last q
      → HappenedBefore r.events (kept_place numbers q j) (kept_place numbers p l)
  pub few : (q : ℕ) → q ≢ p → slice_index last q ≤ length (slice_index_or numbers q [])
  pub latest : (q k l : ℕ) → q ≢ p → slice_index last q ≡ suc k → i ≤ l → l < length (slice_index_or numbers p [])
      → HasNoneBetween r numbers q k p l → IsReceivedUpTo events (length events) (message_id q k)
  pub once : (q j : ℕ) → IsReceivedUpTo events (length events) (message_id q j) → j < slice_index last q
  pub fit : All (FitsProcess names p) events

-- of each of the first k processes but p itself all is known that happened before the kept event of rank i
abbrev pub AllKnown : Recorded → (numbers : List (List ℕ)) → (p i : ℕ) → (last : List ℕ) → ℕ → Type 0
AllKnown r numbers p i last k = (q : ℕ) → q < k → q ≢ p → IsKnown r numbers p i q (slice_index last q)

-- Of a process of which this many kept events are known now, the message of the last of these was received, unless it
-- was before, or needn't be.
pub record HasReceived (q known : ℕ) (through : Bool) (last last' : List ℕ) (events events' : List Event) :
    Type 0 where
  pub same : known ≤ slice_index last q → (last' ≡ last) × (events' ≡ events)
  pub passed : slice_index last q < known → through ≡ true → (last' ≡ slice_set last q known) × (events' ≡ events)
  pub more : (k : ℕ) → known ≡ suc k → slice_index last q ≤ k → through ≡ false → (last' ≡ slice_set last q known)
      × (events' ≡ events ++ record { kind = Receive (message_id q k); sets = [] } ∷ [])

-- Some kept event lies between the last of the first kept events of process q, this many, and the kept event of process
-- p of this rank.
abbrev pub ComesThrough : Recorded → (numbers : List (List ℕ)) → (p i q known : ℕ) → Type 0
ComesThrough r numbers p i q known =
    (k : ℕ) → known ≡ suc k → k < length (slice_index_or numbers q []) → ¬ HasNoneBetween r numbers q k p i

-- The image of the kept event of this rank, after which the variables are worth this, was added.
pub record AddsImage (worth : ℕ → ℤ) (vars : List ℕ) (count p rank : ℕ) (events events' : List Event) : Type 0 where
  pub sets : List (ℕ × ℤ)
  pub are : AreSettings worth vars count sets
  pub is : events' ≡ events ++ record { kind = Send (message_id p rank); sets = sets } ∷ []

-- whatever plan these events were made by goes on by them, and all is known of the first k processes
abbrev pub GoesOn : Recorded → (numbers : List (List ℕ)) → (p i k : ℕ) → (events events' : List Event)
    → (last last' : List ℕ) → Type 0
GoesOn r numbers p i k events events' last last' =
    (names : List ProcessNames) (vars : List ℕ) → IsPlanned names r vars numbers p i events last
    → IsPlanned names r vars numbers p i events' last' × AllKnown r numbers p i last' k

-- by these names, of which the process has this many variables, the events are planned
abbrev pub IsPlannedWith : (count : ℕ) → Recorded → (vars : List ℕ) → (numbers : List (List ℕ)) → (p i : ℕ)
    → (events : List Event) → Type 0
IsPlannedWith count r vars numbers p i events =
    (names : List ProcessNames) → count ≡ length (vars_of names p) → (last : List ℕ)
    × IsPlanned names r vars numbers p i events last

-- The process has an image for each of its kept events, and no more events than may be.
pub record IsWhole (names : List ProcessNames) (r : Recorded) (vars : List ℕ) (numbers : List (List ℕ)) (p : ℕ)
    (events : List Event) : Type 0 where
  pub last : List ℕ
  pub plan : IsPlanned names r vars numbers p (length (slice_index_or numbers p [])) events last
  pub few : length events ≤ event_limit

-- the traces of the first k processes are whole
pub record AreWhole (names : List ProcessNames) (r : Recorded) (named numbers : List (List ℕ)) (k : ℕ)
    (traces : List Trace) : Type 0 where
  pub many : length traces ≡ k
  pub process : (p : ℕ) (trace : Trace) → slice_get traces p ≡ Some trace → trace.process ≡ p
  pub whole : (p : ℕ) (trace : Trace) → slice_get traces p ≡ Some trace
      → IsWhole names r (slice_index_or named p []) numbers p trace.events
