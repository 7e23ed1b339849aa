-- Of what events a reduction consists: each process has its kept events, each as a send, and before each of them it
-- receives from each latest kept event of another process that happened before it, if none lies between.
use Rattle.std.specs.Prelude.{◌≡◌, ◌≢◌, ℕ, ◌+◌, ◌/◌, ◌%◌, ◌<◌, ◌≤◌, List, [], ◌∷◌, AllPairs, Contains, ℤ, Some, option_map, length, slice_index, slice_index_or}
use Rattle.def_model.specs.Events.{Computation, Event, Place, Receive, Send, events_of, numbered, place}
use Rattle.def_model.specs.Order.{HappenedBefore}
use Rattle.def_model.specs.Predicates.{Recorded, after_sets}
use Rattle.def_long.specs.Views.{value_after}
use Rattle.def_orders.specs.Orders.{AreKept}

-- the id of the message that the kept event of this rank sends: a letter for its process, and four digits
abbrev pub message_id : ℕ → ℕ → List ℕ
message_id p rank =
    (97 + p) ∷ (48 + rank / 1000) ∷ (48 + rank / 100 % 10) ∷ (48 + rank / 10 % 10) ∷ (48 + rank % 10) ∷ []

-- the kept event of process p of this rank, from 0; a list for each process has the numbers of its kept events
abbrev pub kept_place : (numbers : List (List ℕ)) → ℕ → ℕ → Place
kept_place numbers p rank = place p (slice_index (slice_index_or numbers p []) rank)

-- The event sends the message of this kept event, and sets these variables to what they are worth after that.
pub record IsImage (r : Recorded) (vars : List ℕ) (numbers : List (List ℕ)) (p rank : ℕ) (event : Event) :
    Type 0 where
  pub sends : event.kind ≡ Send (message_id p rank)
  pub values : (v : ℕ) (old : ℤ) → Contains vars v
      → after_sets v old event.sets ≡ value_after r (kept_place numbers p rank).number p v

-- no kept event lies between the kept events of these ranks
abbrev pub HasNoneBetween : Recorded → (numbers : List (List ℕ)) → (q k p i : ℕ) → Type 0
HasNoneBetween r numbers q k p i =
    (s m : ℕ) → m < length (slice_index_or numbers s [])
    → HappenedBefore r.events (kept_place numbers q k) (kept_place numbers s m)
    → ¬ HappenedBefore r.events (kept_place numbers s m) (kept_place numbers p i)

-- some event of the list, up to this number, receives the message
abbrev pub IsReceivedUpTo : List Event → ℕ → List ℕ → Type 0
IsReceivedUpTo events n id =
    (m : ℕ) × (m ≤ n) × (option_map (λ (event : Event). event.kind) (numbered events m) ≡ Some (Receive id))

-- The event of process p with this number receives, and sets nothing. What it receives is sent by a kept event of
-- another process that happened before each kept event of which the image comes later, or isn't there yet, and was
-- received by no event before.
pub record IsReceipt (r : Recorded) (numbers : List (List ℕ)) (p : ℕ) (events : List Event) (places : List ℕ)
    (n : ℕ) (event : Event) : Type 0 where
  pub process : ℕ
  pub rank : ℕ
  pub there : rank < length (slice_index_or numbers process [])
  pub other : process ≢ p
  pub receives : event.kind ≡ Receive (message_id process rank)
  pub sets_nothing : event.sets ≡ []
  pub before : (i : ℕ) → i < length (slice_index_or numbers p []) → (i < length places → n ≤ slice_index places i)
      → HappenedBefore r.events (kept_place numbers process rank) (kept_place numbers p i)
  pub once : (m : ℕ) → m < n → ¬ IsReceivedUpTo events m (message_id process rank)

-- These are the events of process p, with the images of its kept events at these numbers.
pub record AreReduced (r : Recorded) (vars : List ℕ) (numbers : List (List ℕ)) (p : ℕ) (events : List Event)
    (places : List ℕ) : Type 0 where
  pub as_many : length places ≡ length (slice_index_or numbers p [])
  pub ascend : AllPairs (λ (m n : ℕ). m < n) places
  pub images : (i : ℕ) → i < length places → (event : Event) × (numbered events (slice_index places i) ≡ Some event)
      × IsImage r vars numbers p i event
  pub receipts : (n : ℕ) (event : Event) → numbered events n ≡ Some event → ¬ Contains places n
      → IsReceipt r numbers p events places n event
  -- what the latest kept event of another process sends that happened before the kept event of this rank, if no kept
  -- event lies between
  pub needed : (i q k : ℕ) → i < length places → q ≢ p → k < length (slice_index_or numbers q [])
      → HappenedBefore r.events (kept_place numbers q k) (kept_place numbers p i)
      → ((j : ℕ) → j < length (slice_index_or numbers q [])
      → HappenedBefore r.events (kept_place numbers q j) (kept_place numbers p i) → j ≤ k)
      → HasNoneBetween r numbers q k p i
      → IsReceivedUpTo events (slice_index places i) (message_id q k)

-- The events of each process are made of its kept events.
pub record IsReducedRun (r : Recorded) (named numbers : List (List ℕ)) (c : Computation) (places : List (List ℕ)) :
    Type 0 where
  pub as_many : length c ≡ length r.events
  pub all_named : length named ≡ length r.events
  pub kept : (p : ℕ) → AreKept r p (slice_index_or named p []) (slice_index_or numbers p [])
  pub each : (p : ℕ) → AreReduced r (slice_index_or named p []) numbers p (events_of c p) (slice_index_or places p [])
