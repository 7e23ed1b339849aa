-- The state at a cut, and what a global predicate means there, over whole numbers without bound.
use Rattle.std.specs.Prelude.{ℕ, Bool, true, false, not, ◌&&◌, ◌||◌, cond, List, [], ◌∷◌, take, ℤ, pos, ◌+ℤ◌, ◌-ℤ◌, ◌*ℤ◌, int_lt, int_le, nat_eq, Option, Some, None, slice_get, slice_index, slice_index_or}
use Rattle.std.specs.Ordering.{int_eq}
use Rattle.def_model.specs.Events.{Event, Computation, events_of}

-- for each process the values that its variables have at the beginning
abbrev pub Initial : Type 0
Initial = List (List ℤ)

-- what was recorded: the events, and what the variables were before them
pub record Recorded : Type 0 where
  pub initial : Initial
  pub events : Computation

-- a variable that had the value old, after these settings
abbrev pub after_sets : ℕ → ℤ → List (ℕ × ℤ) → ℤ
after_sets v old [] = old
after_sets v old ((w, value) ∷ rest) = after_sets v (cond (nat_eq w v) value old) rest

-- the value that the events last set, or else old
abbrev pub last_set : ℕ → ℤ → List Event → ℤ
last_set v old [] = old
last_set v old (event ∷ rest) = last_set v (after_sets v old event.sets) rest

-- 0 for what isn't there
abbrev pub last_set_if_there : ℕ → Option ℤ → List Event → ℤ
last_set_if_there v None events = pos 0
last_set_if_there v (Some old) events = last_set v old events

-- The state at a cut: a variable has the value last set by an event of its process in the cut, else its initial value.
abbrev pub state_at : Initial → Computation → List ℕ → ℕ → ℕ → ℤ
state_at initial c counts p v =
    last_set_if_there v (slice_get (slice_index_or initial p []) v) (take (slice_index counts p) (events_of c p))

-- A variable is named by its process and its number there, both from 0.
pub data Term : Type 0 where
  Number : ℕ → Term
  Variable : ℕ → ℕ → Term
  Times : ℕ → ℕ → ℕ → Term

pub data Sign : Type 0 where
  Plus : Sign
  Minus : Sign

pub data Comparison : Type 0 where
  Equals : Comparison
  Differs : Comparison
  IsLess : Comparison
  IsAtMost : Comparison
  IsGreater : Comparison
  IsAtLeast : Comparison

pub data Predicate : Type 0 where
  Always : Predicate
  Never : Predicate
  Compare : List (Sign × Term) → Comparison → List (Sign × Term) → Predicate
  Not : Predicate → Predicate
  And : Predicate → Predicate → Predicate
  Or : Predicate → Predicate → Predicate

abbrev pub term_value : (ℕ → ℕ → ℤ) → Term → ℤ
term_value state (Number n) = pos n
term_value state (Variable p v) = state p v
term_value state (Times n p v) = pos n *ℤ state p v

abbrev pub signed : Sign → ℤ → ℤ
signed Plus value = value
signed Minus value = pos 0 -ℤ value

abbrev pub sum_value : (ℕ → ℕ → ℤ) → List (Sign × Term) → ℤ
sum_value state [] = pos 0
sum_value state ((sign, term) ∷ rest) = signed sign (term_value state term) +ℤ sum_value state rest

abbrev pub compares : Comparison → ℤ → ℤ → Bool
compares Equals x y = int_eq x y
compares Differs x y = not (int_eq x y)
compares IsLess x y = int_lt x y
compares IsAtMost x y = int_le x y
compares IsGreater x y = int_lt y x
compares IsAtLeast x y = int_le y x

-- whether the predicate is true at the state
abbrev pub holds_at : (ℕ → ℕ → ℤ) → Predicate → Bool
holds_at state Always = true
holds_at state Never = false
holds_at state (Compare left comparison right) = compares comparison (sum_value state left) (sum_value state right)
holds_at state (Not inner) = not (holds_at state inner)
holds_at state (And left right) = holds_at state left && holds_at state right
holds_at state (Or left right) = holds_at state left || holds_at state right

-- whether the cut satisfies the predicate
abbrev pub satisfies : Initial → Computation → Predicate → List ℕ → Bool
satisfies initial c predicate counts = holds_at (state_at initial c counts) predicate

-- the test of the cuts of what was recorded
abbrev pub test_of : Recorded → Predicate → List ℕ → Bool
test_of recorded predicate = satisfies recorded.initial recorded.events predicate
