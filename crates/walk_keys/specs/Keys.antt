-- Counts below the base, one for each process, as the digits of one number. The count of process 0 is the highest.
use Rattle.std.specs.Prelude.{◌≡◌, ℕ, zero, suc, ◌+◌, ◌*◌, ◌/◌, ◌%◌, ◌^◌, ◌<◌, List, [], ◌∷◌, length, slice_index, All, Option, Some, None}

-- the base of the digits: a count is one digit
abbrev pub count_base : ℕ
count_base = 65536

-- the number with these digits
abbrev pub key_of : List ℕ → ℕ
key_of [] = 0
key_of (x ∷ xs) = x * count_base ^ length xs + key_of xs

-- the last n digits of a number
abbrev pub digits : ℕ → ℕ → List ℕ
digits zero key = []
digits (suc n) key = (key / count_base ^ n) ∷ digits n (key % count_base ^ n)

-- each is below the base
abbrev pub AreDigits : List ℕ → Type 0
AreDigits counts = All (λ count. count < count_base) counts

-- the number with these digits, if they are digits
abbrev pub IsPacked : List ℕ → Option ℕ → Type 0
IsPacked counts None = ¬ AreDigits counts
IsPacked counts (Some key) = AreDigits counts × (key ≡ key_of counts)

-- each number is below those after it
abbrev pub Ascending : List ℕ → Type 0
Ascending xs = (i j : ℕ) → i < j → j < length xs → slice_index xs i < slice_index xs j

-- ascending numbers of n digits
pub record AreKeys (n : ℕ) (keys : List ℕ) : Type 0 where
  pub below : (i : ℕ) → i < length keys → slice_index keys i < count_base ^ n
  pub ascending : Ascending keys
