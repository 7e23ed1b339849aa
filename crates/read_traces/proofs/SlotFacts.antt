-- The slots of a column, as numbers are added that are too wide for one.
use Rattle.std.proofs.Common.{◌≡◌, ◌⊎◌, inl, inr, ◌<◌, ◌≤◌, ◌+◌, ◌-◌, ◌^◌, ◌++◌, ℤ, pos, negsuc, List, [], ◌∷◌, length, refl, ◌∙◌, arith}
use Rattle.std.specs.Prelude.{All}
use Rattle.std.proofs.Math.ListN.{get_or-append}
use Rattle.std.proofs.Math.Seq.{get_or-append_seam}
use Rattle.std.proofs.lemmas.Bool.{cases_lt, lt-ltb, le-ltb}
use Rattle.std.proofs.lemmas.List.{map-append}
use Rattle.std.proofs.lemmas.List.Elements.{All-head, All-tail}
use Rattle.read_traces.specs.NumberSlots.{IsSlot, number_in, numbers_in}

-- a slot stands for the same number if more of them are wide
number_grown : (wide more : List ℤ) (slot : ℤ) → IsSlot (length wide) slot
    → number_in (wide ++ more) slot ≡ number_in wide slot
number_grown wide more (pos n) is = refl
number_grown wide more (negsuc k) is = go (cases_lt k (2 ^ 30))
  where
    go : (k < 2 ^ 30) ⊎ (2 ^ 30 ≤ k) → number_in (wide ++ more) (negsuc k) ≡ number_in wide (negsuc k)
    go (inl lt) = rw (lt-ltb k (2 ^ 30) lt) refl
    go (inr le) = rw (le-ltb k (2 ^ 30) le) (get_or-append wide more (pos 0) (k - 2 ^ 30) (omega (arith, is)))

pub numbers_grown : (wide more slots : List ℤ) → All (IsSlot (length wide)) slots
    → numbers_in (wide ++ more) slots ≡ numbers_in wide slots
numbers_grown wide more [] are = refl
numbers_grown wide more (slot ∷ slots) are = λ i.
    number_grown wide more slot (All-head (IsSlot (length wide)) slot slots are) i
    ∷ numbers_grown wide more slots (All-tail (IsSlot (length wide)) slot slots are) i

-- the slot of the next wide number
number_last : (wide : List ℤ) (number : ℤ) → number_in (wide ++ number ∷ []) (negsuc (2 ^ 30 + length wide)) ≡ number
number_last wide number =
    let at : 2 ^ 30 + length wide - 2 ^ 30 ≡ length wide = omega arith in
    rw (le-ltb (2 ^ 30 + length wide) (2 ^ 30) (omega arith), at) (get_or-append_seam wide number [] (pos 0))

-- the numbers with one more that is too wide for a slot
pub numbers_pushed : (wide slots : List ℤ) (number : ℤ) → All (IsSlot (length wide)) slots
    → numbers_in (wide ++ number ∷ []) (slots ++ negsuc (2 ^ 30 + length wide) ∷ [])
    ≡ numbers_in wide slots ++ number ∷ []
numbers_pushed wide slots number are =
    map-append (number_in (wide ++ number ∷ [])) slots (negsuc (2 ^ 30 + length wide) ∷ [])
    ∙ (λ i. numbers_grown wide (number ∷ []) slots are i ++ number_last wide number i ∷ [])
