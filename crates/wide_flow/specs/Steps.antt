-- Steps of several processes, each with what it adds to a sum, and which steps are in the past of which.
use Rattle.std.specs.Prelude.{◌≡◌, ℕ, ◌<◌, ◌≤◌, ◌^◌, true, Bool, List, [], map, pos, int_lt, length, slice_index, slice_index_or, unsigned_abs}
use Rattle.wide_flow.specs.declared.step.Step.{Step}

abbrev pub no_step : Step
no_step = record { process = 0; count = 0; past = record { ref_ptr = (0, 0); now = [] }; weight = pos 0; key = 0 }

-- the step at this place of the list
abbrev pub step_at : List Step → ℕ → Step
step_at steps i = slice_index_or steps i no_step

-- step f is in the past of step e
abbrev pub IsPast : List Step → ℕ → ℕ → Type 0
IsPast steps f e = (step_at steps f).count ≤ slice_index (step_at steps e).past.now (step_at steps f).process

-- whether the step lowers the sum
abbrev pub is_negative : List Step → ℕ → Bool
is_negative steps i = int_lt (step_at steps i).weight (pos 0)

abbrev pub IsNegative : List Step → ℕ → Type 0
IsNegative steps i = is_negative steps i ≡ true

-- what the steps add to the sum or take from it
abbrev pub sizes : List Step → List ℕ
sizes steps = map (λ s. unsigned_abs s.weight) steps

-- how many steps there may be, and below which number their sizes are
abbrev pub step_limit : ℕ
step_limit = 160016

abbrev pub size_limit : ℕ
size_limit = 2 ^ 110

-- the steps of this many processes, in an order, with their pasts
pub record AreSteps (processes : ℕ) (steps : List Step) : Type 0 where
  pub few : length steps ≤ step_limit
  pub small : (i : ℕ) → i < length steps → unsigned_abs (step_at steps i).weight < size_limit
  pub there : (i : ℕ) → i < length steps → (step_at steps i).process < processes
  pub one_each : (i : ℕ) → i < length steps → length (step_at steps i).past.now ≡ processes
  -- each step is in its own past
  pub own : (i : ℕ) → i < length steps → IsPast steps i i
  -- what is in the past of a step in the past is in the past
  pub transitive : (f e p : ℕ) → f < length steps → e < length steps → p < processes → IsPast steps f e
      → slice_index (step_at steps f).past.now p ≤ slice_index (step_at steps e).past.now p
  -- the steps stand in the order of their keys, and no step has a greater key than one that it is in the past of
  pub ascending : (i j : ℕ) → i < j → j < length steps → (step_at steps i).key ≤ (step_at steps j).key
  pub monotone : (f e : ℕ) → f < length steps → e < length steps → IsPast steps f e
      → (step_at steps f).key ≤ (step_at steps e).key
  -- the negative steps of a process stand in the order of their counts
  pub counted : (i j : ℕ) → i < j → j < length steps → (step_at steps i).process ≡ (step_at steps j).process
      → IsNegative steps i → IsNegative steps j → (step_at steps i).count ≤ (step_at steps j).count
