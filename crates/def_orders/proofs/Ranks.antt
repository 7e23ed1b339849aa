-- How many numbers of an ascending list are at most another one, and the last of these.
use Rattle.std.proofs.Common.{◌≡◌, ℕ, zero, suc, ◌+◌, ◌<◌, ◌≤◌, Bool, true, false, cond, List, [], ◌∷◌, length, get_or, AllPairs, Contains, filter, nat_le, refl, ap, ◌∙◌, subst, inl, inr, ◌⊎◌, ◌↔◌, arith}
use Rattle.std.proofs.lemmas.Bool.{cases_eq, cases_lt, leb-true, leb-false}
use Rattle.std.proofs.lemmas.List.{get_or_default}
use Rattle.def_orders.specs.Orders.{count_up_to}

abbrev pub Ascend : List ℕ → Type 0
Ascend numbers = AllPairs (λ (m n : ℕ). m < n) numbers

pub rest_ascend : (x : ℕ) (rest : List ℕ) → Ascend (x ∷ rest) → Ascend rest
rest_ascend x rest ascend i j d lt within = ascend (suc i) (suc j) d (omega arith) (omega arith)

pub count_within : (numbers : List ℕ) (n : ℕ) → count_up_to numbers n ≤ length numbers
count_within [] n = omega arith
count_within (x ∷ rest) n = go (nat_le x n) (count_within rest n)
  where
    go : (b : Bool) → count_up_to rest n ≤ length rest
        → length (cond b (x ∷ filter (λ m. nat_le m n) rest) (filter (λ m. nat_le m n) rest)) ≤ suc (length rest)
    go true few = omega arith
    go false few = omega arith

-- The numbers at most n are the first ones.
pub first_ones : (numbers : List ℕ) → Ascend numbers → (n i : ℕ) → i < length numbers
    → (get_or numbers i 0 ≤ n) ↔ (i < count_up_to numbers n)
first_ones [] ascend n i within = absurd (omega arith)
first_ones (x ∷ rest) ascend n i within = go (nat_le x n) refl (first_ones rest (rest_ascend x rest ascend) n) i within
  where
    go : (b : Bool) → nat_le x n ≡ b
        → ((j : ℕ) → j < length rest → (get_or rest j 0 ≤ n) ↔ (j < count_up_to rest n))
        → (i : ℕ) → i < suc (length rest) → (get_or (x ∷ rest) i 0 ≤ n)
        ↔ (i < length (cond b (x ∷ filter (λ m. nat_le m n) rest) (filter (λ m. nat_le m n) rest)))
    go true is others zero lt = (λ le. omega arith, λ low. leb-true x n is)
    go true is others (suc j) lt = (
      λ le. let low : j < count_up_to rest n = (others j (omega arith)).0 le in omega arith,
      λ low. (others j (omega arith)).1 (omega arith),
    )
    go false is others zero lt = (
      λ le. let out : n < x = leb-false x n is in absurd (omega arith),
      λ low. let few : count_up_to rest n ≤ length rest = count_within rest n in
          let out : n < x = leb-false x n is in
          let le : get_or rest 0 0 ≤ n = (others 0 (omega arith)).1 low in
          let more : x < get_or rest 0 0 = ascend 0 1 0 (omega arith) (omega arith) in omega arith,
    )
    go false is others (suc j) lt = (
      λ le. let out : n < x = leb-false x n is in
          let more : x < get_or rest j 0 = ascend 0 (suc j) 0 (omega arith) (omega arith) in absurd (omega arith),
      λ low. (others j (omega arith)).1 (omega arith),
    )

-- two bounds below which are the same numbers of a list's places
pub same_counts : (most a b : ℕ) → a ≤ most → b ≤ most → ((i : ℕ) → i < most → (i < a) ↔ (i < b)) → a ≡ b
same_counts most a b few few' same = go (cases_lt a b) (cases_lt b a)
  where
    go : (a < b) ⊎ (b ≤ a) → (b < a) ⊎ (a ≤ b) → a ≡ b
    go (inl lt) other = let low : a < a = (same a (omega arith)).1 lt in absurd (omega arith)
    go (inr le) (inl lt) = let low : b < b = (same b (omega arith)).0 lt in absurd (omega arith)
    go (inr le) (inr ge) = omega arith

-- of a number of the list: with it, as many as stand up to its place
pub count_at : (numbers : List ℕ) → Ascend numbers → (i : ℕ) → i < length numbers
    → count_up_to numbers (get_or numbers i 0) ≡ suc i
count_at numbers ascend i within = go (cases_lt (suc i) (count_up_to numbers (get_or numbers i 0)))
  where
    low : i < count_up_to numbers (get_or numbers i 0)
    low = (first_ones numbers ascend (get_or numbers i 0) i within).0 (omega arith)

    go : (suc i < count_up_to numbers (get_or numbers i 0)) ⊎ (count_up_to numbers (get_or numbers i 0) ≤ suc i)
        → count_up_to numbers (get_or numbers i 0) ≡ suc i
    go (inr few) = let l : i < count_up_to numbers (get_or numbers i 0) = low in omega arith
    go (inl many) =
        let most : count_up_to numbers (get_or numbers i 0) ≤ length numbers =
        count_within numbers (get_or numbers i 0) in
        let le : get_or numbers (suc i) 0 ≤ get_or numbers i 0 =
        (first_ones numbers ascend (get_or numbers i 0) (suc i) (omega arith)).1 many in
        let more : get_or numbers i 0 < get_or numbers (suc i) 0 = ascend i (suc i) 0 (omega arith) (omega arith) in
        absurd (omega arith)

-- ---- the last of them

-- the k-th number, counted from 1, and 0 before the first one
abbrev pub ranked : List ℕ → ℕ → ℕ
ranked numbers k = get_or (0 ∷ numbers) k 0

-- the last number that is at most n, or 0
abbrev pub last_up_to : List ℕ → ℕ → ℕ
last_up_to numbers n = ranked numbers (count_up_to numbers n)

pub last_at : (numbers : List ℕ) → Ascend numbers → (i : ℕ) → i < length numbers
    → last_up_to numbers (get_or numbers i 0) ≡ get_or numbers i 0
last_at numbers ascend i within = ap (ranked numbers) (count_at numbers ascend i within)

-- of a number of the list it is that number
pub last_of_contained : (numbers : List ℕ) → Ascend numbers → (n : ℕ) → Contains numbers n → last_up_to numbers n ≡ n
last_of_contained numbers ascend n (i, within, at) =
    subst (λ (m : ℕ). last_up_to numbers m ≡ m) is (last_at numbers ascend i within)
  where
    is : get_or numbers i 0 ≡ n
    is = get_or_default numbers i 0 n within ∙ at

-- and of no other one, if that isn't 0
pub contained_of_last : (numbers : List ℕ) (n : ℕ) → 1 ≤ n → last_up_to numbers n ≡ n → (i : ℕ) × (i < length numbers)
    × (get_or numbers i 0 ≡ n)
contained_of_last numbers n some last = go (count_up_to numbers n) (count_within numbers n) last
  where
    go : (k : ℕ) → k ≤ length numbers → ranked numbers k ≡ n → (i : ℕ) × (i < length numbers)
        × (get_or numbers i 0 ≡ n)
    go zero few at = absurd (omega arith)
    go (suc i) few at = (i, omega arith, at)

-- A number that isn't in the list adds none.
pub count_of_other : (numbers : List ℕ) → Ascend numbers → (n : ℕ) → (Contains numbers (n + 1) → ⊥)
    → count_up_to numbers n ≡ count_up_to numbers (n + 1)
count_of_other numbers ascend n out =
    same_counts (length numbers) (count_up_to numbers n) (count_up_to numbers (n + 1)) (count_within numbers n)
    (count_within numbers (n + 1)) (λ i within. (to i within, from i within))
  where
    to : (i : ℕ) → i < length numbers → i < count_up_to numbers n → i < count_up_to numbers (n + 1)
    to i within low =
        let le : get_or numbers i 0 ≤ n = (first_ones numbers ascend n i within).1 low in
        (first_ones numbers ascend (n + 1) i within).0 (omega arith)

    from : (i : ℕ) → i < length numbers → i < count_up_to numbers (n + 1) → i < count_up_to numbers n
    from i within low = go (cases_eq (get_or numbers i 0) (n + 1))
      where
        le : get_or numbers i 0 ≤ n + 1
        le = (first_ones numbers ascend (n + 1) i within).1 low

        go : (get_or numbers i 0 ≡ n + 1) ⊎ (get_or numbers i 0 ≡ n + 1 → ⊥) → i < count_up_to numbers n
        go (inl at) = absurd (out (i, within, get_or_default numbers i (n + 1) 0 within ∙ at))
        go (inr apart) = let l : get_or numbers i 0 ≤ n + 1 = le in
            (first_ones numbers ascend n i within).0 (omega arith)
