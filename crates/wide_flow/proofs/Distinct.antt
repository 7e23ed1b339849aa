-- Numbers below n of which no two are equal are at most n.
use Rattle.std.proofs.Common.{◌≡◌, ◌≢◌, ℕ, suc, ◌<◌, ◌≤◌, true, false, eqb, List, [], ◌∷◌, length, get_or, sym, subst, ◌⊎◌, inl, inr, arith}
use Rattle.std.specs.List.{AllByRecursion, IsDistinct, list_any}
use Rattle.std.proofs.lemmas.Bool.{eqb-true, ne_eqb, or_cases}
use Rattle.std.proofs.lemmas.Map.Steps.{length-le_from_distinct_below}

all_at : (P : ℕ → Type 0) (xs : List ℕ) → ((i : ℕ) → i < length xs → P (get_or xs i 0)) → AllByRecursion P xs
all_at P [] each = tt
all_at P (x ∷ xs) each = (each 0 (omega arith), all_at P xs (λ i lt. each (suc i) (omega (arith, lt))))

distinct_at : (xs : List ℕ) → ((i j : ℕ) → i < j → j < length xs → get_or xs i 0 ≢ get_or xs j 0) → IsDistinct eqb xs
unfolding IsDistinct
distinct_at [] apart = tt
distinct_at (x ∷ xs) apart = (
  all_at (λ y. eqb x y ≡ false) xs
      (λ i lt. ne_eqb x (get_or xs i 0) (apart 0 (suc i) (omega arith) (omega (arith, lt)))),
  distinct_at xs (λ i j less lt. apart (suc i) (suc j) (omega (arith, less)) (omega (arith, lt))),
)

below_any : (xs : List ℕ) (n : ℕ) → ((i : ℕ) → i < length xs → get_or xs i 0 < n) → (q : ℕ)
    → list_any (eqb q) xs ≡ true → q < n
below_any [] n each q is = cc
below_any (x ∷ xs) n each q is =
    go (below_any xs n (λ i lt. each (suc i) (omega (arith, lt))) q) (or_cases (eqb q x) (list_any (eqb q) xs) is)
  where
    go : (list_any (eqb q) xs ≡ true → q < n) → (eqb q x ≡ true) ⊎ (list_any (eqb q) xs ≡ true) → q < n
    go rest (inl same) = subst (λ (m : ℕ). m < n) (sym (eqb-true q x same)) (each 0 (omega arith))
    go rest (inr later) = rest later

pub at_most : (xs : List ℕ) (n : ℕ) → ((i : ℕ) → i < length xs → get_or xs i 0 < n)
    → ((i j : ℕ) → i < j → j < length xs → get_or xs i 0 ≢ get_or xs j 0) → length xs ≤ n
at_most xs n each apart = length-le_from_distinct_below xs n (distinct_at xs apart) (below_any xs n each)
