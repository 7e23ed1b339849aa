-- A sum of terms, by the processes that its terms speak of.
use Rattle.std.specs.Prelude.{◌≡◌, ℕ, zero, suc, ◌+◌, ◌<◌, ◌≤◌, List, [], ◌∷◌, length, nat_eq, cond, ℤ, pos, ◌+ℤ◌, ◌-ℤ◌, slice_index, slice_index_or}
use Rattle.def_model.specs.Events.{event_count}
use Rattle.def_model.specs.Predicates.{Sign, Term, Number, Variable, Times, Recorded, signed, state_at, term_value}
use Rattle.walk_tables.specs.Zero.{IsSmall}

-- the value of a number, and 0 for other terms
abbrev pub number_value : Term → ℤ
number_value (Number n) = pos n
number_value (Variable p v) = pos 0
number_value (Times n p v) = pos 0

-- the value of a term that speaks of process p, and 0 for other terms
abbrev pub part_value : (ℕ → ℕ → ℤ) → ℕ → Term → ℤ
part_value state p (Number n) = pos 0
part_value state p (Variable q v) = cond (nat_eq q p) (term_value state (Variable q v)) (pos 0)
part_value state p (Times n q v) = cond (nat_eq q p) (term_value state (Times n q v)) (pos 0)

-- the sum of the numbers among the terms
abbrev pub numbers_value : List (Sign × Term) → ℤ
numbers_value [] = pos 0
numbers_value ((sign, term) ∷ rest) = signed sign (number_value term) +ℤ numbers_value rest

-- the sum of the terms that speak of process p
abbrev pub parts_value : (ℕ → ℕ → ℤ) → ℕ → List (Sign × Term) → ℤ
parts_value state p [] = pos 0
parts_value state p ((sign, term) ∷ rest) = signed sign (part_value state p term) +ℤ parts_value state p rest

-- the sum of the terms that speak of a process below p
abbrev pub parts_below : (ℕ → ℕ → ℤ) → ℕ → List (Sign × Term) → ℤ
parts_below state zero terms = pos 0
parts_below state (suc p) terms = parts_below state p terms +ℤ parts_value state p terms

-- the term speaks of no process from p on
abbrev pub SpeaksBelow : ℕ → Term → Type 0
SpeaksBelow p (Number n) = Unit {0}
SpeaksBelow p (Variable q v) = q < p
SpeaksBelow p (Times n q v) = q < p

abbrev pub SpeakBelow : ℕ → List (Sign × Term) → Type 0
SpeakBelow p [] = Unit {0}
SpeakBelow p ((sign, term) ∷ rest) = SpeaksBelow p term × SpeakBelow p rest

-- what process p adds to the difference of two sums
abbrev pub part_of_difference : (ℕ → ℕ → ℤ) → ℕ → List (Sign × Term) → List (Sign × Term) → ℤ
part_of_difference state p left right = parts_value state p left -ℤ parts_value state p right

-- the number at a count, and 0 past the end
abbrev pub row_at : List ℤ → ℕ → ℤ
row_at row n = slice_index_or row n (pos 0)

-- The row has what process p adds to the difference of two sums, by the count of its events. It is empty only if that
-- is 0 at each count.
pub record IsRowOf (r : Recorded) (left right : List (Sign × Term)) (p : ℕ) (row : List ℤ) : Type 0 where
  pub long : 0 < length row → length row ≡ event_count r.events p + 1
  pub small : (n : ℕ) → IsSmall (row_at row n)
  pub adds : (counts : List ℕ) → slice_index counts p ≤ event_count r.events p
      → row_at row (slice_index counts p) ≡ part_of_difference (state_at r.initial r.events counts) p left right
