-- A sum of terms that name two processes alone, as what each of the two adds.
use Rattle.std.specs.Prelude.{◌≡◌, ℕ, ◌≤◌, ◌^◌, Bool, cond, List, [], ◌∷◌, nat_eq, ℤ, pos, ◌+ℤ◌, ◌-ℤ◌, ◌*ℤ◌, slice_get, slice_index_or, take}
use Rattle.std.specs.Int.RustNames.{unsigned_abs}
use Rattle.def_model.specs.Events.{event_count, events_of}
use Rattle.def_model.specs.Predicates.{Sign, Term, Number, Variable, Times, Recorded, last_set_if_there, signed}

-- the value of variable v of process s after its first n events
abbrev pub value_after : Recorded → ℕ → ℕ → ℕ → ℤ
value_after r s n v = last_set_if_there v (slice_get (slice_index_or r.initial s []) v) (take n (events_of r.events s))

-- what a term adds after the first n events of process s, if it names s; a number is taken in or left out
abbrev pub part_value : Recorded → ℕ → ℕ → Bool → Term → ℤ
part_value r s n numbers (Number k) = cond numbers (pos k) (pos 0)
part_value r s n numbers (Variable x v) = cond (nat_eq x s) (value_after r s n v) (pos 0)
part_value r s n numbers (Times k x v) = cond (nat_eq x s) (pos k *ℤ value_after r s n v) (pos 0)

-- the same of all terms of a sum
abbrev pub parts_value : Recorded → ℕ → ℕ → Bool → List (Sign × Term) → ℤ
parts_value r s n numbers [] = pos 0
parts_value r s n numbers ((sign, term) ∷ rest) =
    signed sign (part_value r s n numbers term) +ℤ parts_value r s n numbers rest

-- the left side less the right
abbrev pub part_of_difference : Recorded → ℕ → ℕ → Bool → List (Sign × Term) → List (Sign × Term) → ℤ
part_of_difference r s n numbers left right = parts_value r s n numbers left -ℤ parts_value r s n numbers right

-- the number of a row at a count, and 0 past its end
abbrev pub number_at : List ℤ → ℕ → ℤ
number_at row n = slice_index_or row n (pos 0)

-- no difference of two sums is further from 0, so the sum of a difference for each process fits 128 bits
abbrev pub IsSmall : ℤ → Type 0
IsSmall number = unsigned_abs number ≤ 2 ^ 108

-- The row has what process s adds to the difference of two sums, by the count of its events.
pub record IsRowOf (r : Recorded) (s : ℕ) (numbers : Bool) (left right : List (Sign × Term)) (row : List ℤ) : Type 0
  where
    pub small : (n : ℕ) → IsSmall (number_at row n)
    pub adds : (n : ℕ) → n ≤ event_count r.events s
        → number_at row n ≡ part_of_difference r s n numbers left right
