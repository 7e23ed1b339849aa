-- What the digits of a number write, digit by digit.
use Rattle.std.proofs.Common.{◌≡◌, ℕ, ◌+◌, ◌*◌, ◌-◌, ◌<◌, ◌≤◌, List, [], ◌∷◌, length, get_or, drop, arith}
use Rattle.std.proofs.lemmas.List.{at_drop_more}
use Rattle.def_format.specs.Tokens.{number_from}

-- more digits make no smaller number
pub number_from_grows : (n : ℕ) (digits : List ℕ) → n ≤ number_from n digits
number_from_grows n [] = omega arith
number_from_grows n (digit ∷ rest) = omega (arith, number_from_grows (10 * n + (digit - 48)) rest)

-- one digit on
pub number_from_more : (n : ℕ) (digits : List ℕ) (i : ℕ) → i < length digits
    → number_from n (drop i digits) ≡ number_from (10 * n + (get_or digits i 0 - 48)) (drop (i + 1) digits)
number_from_more n digits i h = at_drop_more (number_from n) digits i 0 h

-- and it has grown no smaller
pub number_from_bound : (n : ℕ) (digits : List ℕ) (i total : ℕ) → i < length digits
    → number_from n (drop i digits) ≡ total → 10 * n + (get_or digits i 0 - 48) ≤ total
number_from_bound n digits i total h e =
    omega (
      arith,
      number_from_more n digits i h,
      number_from_grows (10 * n + (get_or digits i 0 - 48)) (drop (i + 1) digits),
    )
