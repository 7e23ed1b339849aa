-- The keys of counts, and which of two cuts is lower.
use Rattle.std.proofs.Common.{◌≡◌, ◌≢◌, ℕ, zero, suc, ◌<◌, ◌≤◌, List, [], ◌∷◌, length, get_or, sym, inl, inr, ◌⊎◌, arith}
use Rattle.std.proofs.lemmas.Bool.{cases_eq, cases_lt}
use Rattle.def_model.specs.Answers.{LexBelow}
use Rattle.def_model.specs.Lattice.{IsWithin}
use Rattle.def_wide.specs.Heights.{IsLowerThan, height}
use Rattle.wide_reach.specs.declared.key.Key.{Key}
use Rattle.wide_reach.specs.declared.key.Key.TheVariants.{Height, Count}
use Rattle.wide_reach.specs.Keys.{key_of}

-- no count is above the height
pub height-ge : (counts : List ℕ) (p : ℕ) → get_or counts p 0 ≤ height counts
height-ge [] p = omega arith
height-ge (count ∷ rest) zero = omega arith
height-ge (count ∷ rest) (suc p) = let i : get_or rest p 0 ≤ height rest = height-ge rest p in omega arith

-- and it is the least such number
pub height-le : (counts : List ℕ) (h : ℕ) → ((p : ℕ) → get_or counts p 0 ≤ h) → height counts ≤ h
height-le [] h each = omega arith
height-le (count ∷ rest) h each =
    let first : count ≤ h = each 0 in
    let i : height rest ≤ h = height-le rest h (λ p. each (suc p)) in
    omega arith

pub height_within : (a b : List ℕ) → IsWithin a b → height a ≤ height b
height_within a b within =
    height-le a (height b) (λ p.
    let i : get_or a p 0 ≤ get_or b p 0 = within p in
    let j : get_or b p 0 ≤ height b = height-ge b p in
    omega arith)

pub key_within : (key : Key) (a b : List ℕ) → IsWithin a b → key_of key a ≤ key_of key b
key_within Height a b within = height_within a b within
key_within (Count p) a b within = within p

-- what is within and differs is lexicographically before
within_lex : (a b : List ℕ) → length a ≡ length b → IsWithin a b → ¬ (b ≡ a) → LexBelow a b
within_lex [] [] same within apart = absurd (apart (λ i. []))
within_lex [] (y ∷ b) same within apart = absurd (omega arith)
within_lex (x ∷ a) [] same within apart = absurd (omega arith)
within_lex (x ∷ a) (y ∷ b) same within apart =
    go (cases_eq x y)
    (λ e. within_lex a b (omega arith) (λ p. within (suc p)) (λ rest. apart (λ i. sym e i ∷ rest i)))
  where
    go : (x ≡ y) ⊎ (x ≢ y) → (x ≡ y → LexBelow a b) → LexBelow (x ∷ a) (y ∷ b)
    go (inl e) rest = inr (e, rest e)
    go (inr ne) rest = let le : x ≤ y = within 0 in inl (omega arith)

-- so it is lower
pub within_lower : (a b : List ℕ) → length a ≡ length b → IsWithin a b → ¬ (b ≡ a) → IsLowerThan a b
within_lower a b same within apart = go (cases_lt (height a) (height b))
  where
    le : height a ≤ height b
    le = height_within a b within

    go : (height a < height b) ⊎ (height b ≤ height a) → IsLowerThan a b
    go (inl lt) = inl lt
    go (inr ge) = inr (omega (arith, le), within_lex a b same within apart)

-- what is within another isn't after it
no_lex : (a b : List ℕ) → IsWithin a b → ¬ LexBelow b a
no_lex [] [] within below = below
no_lex [] (y ∷ b) within below = below
no_lex (x ∷ a) [] within below = below
no_lex (x ∷ a) (y ∷ b) within (inl lt) = let le : x ≤ y = within 0 in omega arith
no_lex (x ∷ a) (y ∷ b) within (inr (e, below)) = no_lex a b (λ p. within (suc p)) below

pub not_lower : (a b : List ℕ) → IsWithin a b → ¬ IsLowerThan b a
not_lower a b within (inl lt) = let le = height_within a b within in omega (arith, le)
not_lower a b within (inr (e, below)) = no_lex a b within below
