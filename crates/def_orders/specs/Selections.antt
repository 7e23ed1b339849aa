-- Two runs of which the second has some processes of the first one, each with what is seen of it there.
use Rattle.std.specs.Prelude.{◌≡◌, ℕ, ◌≤◌, ◌<◌, List, [], All, AllPairs, Contains, flat_map, length, map, slice_index_or}
use Rattle.def_model.specs.Order.{HasNoCycle}
use Rattle.def_model.specs.Predicates.{Recorded}
use Rattle.def_long.specs.Renamed.{Names}
use Rattle.def_orders.specs.Orders.{IsOrderOf, ProcessOrder}

-- what stands at these places of a list; past its end stands d
abbrev pub at_places : {A : Type 0} → List ℕ → List A → A → List A
at_places places xs d = map (λ p. slice_index_or xs p d) places

-- What is seen of a process if of the others only those at these places are: the same values, and of each row the
-- counts at these places. A row of the whole has this many counts.
pub record IsPartOf (many : ℕ) (places : List ℕ) (whole part : ProcessOrder) : Type 0 where
  pub values : part.values ≡ whole.values
  pub rows : List (List ℕ)
  pub long : All (λ (row : List ℕ). length row ≡ many) rows
  pub known : whole.known ≡ flat_map (λ (row : List ℕ). row) rows
  pub part_known : part.known ≡ flat_map (λ (row : List ℕ). at_places places row 0) rows

-- The second order is what is seen of the processes at these places, if the first one is what is seen of all.
pub record AreParts (places : List ℕ) (order part : List ProcessOrder) : Type 0 where
  pub one_each : length part ≡ length places
  pub each : (i : ℕ) (d : ProcessOrder) → i < length places
      → IsPartOf (length order) places (slice_index_or order (slice_index_or places i 0) d) (slice_index_or part i d)

-- The numbers of the second run's processes in the first one, of which d is none; the variables have the same numbers.
abbrev pub numbers_in : (places : List ℕ) (d : ℕ) → Names
numbers_in places d = record { process = λ i. slice_index_or places i d; variable = λ _ v. v }

-- The second run has the processes at these places of the first one, in their order and with their initial values; what
-- is seen of each is the same, and of the other processes of the first run nothing is.
pub record HaveOnePart (r r' : Recorded) (places : List ℕ) (named : List (List ℕ)) (order part : List ProcessOrder) :
    Type 0 where
  pub some : 1 ≤ length places
  pub ascend : AllPairs (λ (p q : ℕ). p < q) places
  pub there : All (λ p. p < length r.events) places
  pub unseen : (p : ℕ) → p < length r.events → (¬ Contains places p) → slice_index_or named p [] ≡ []
  pub as_many : length r'.events ≡ length places
  pub values_each : length r.initial ≡ length r.events
  pub same_initial : r'.initial ≡ at_places places r.initial []
  pub no_cycle : HasNoCycle r.events
  pub no_cycle' : HasNoCycle r'.events
  pub first : IsOrderOf r named order
  pub second : IsOrderOf r' (at_places places named []) part
  pub are_parts : AreParts places order part
