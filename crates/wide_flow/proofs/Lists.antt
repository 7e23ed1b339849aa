-- What holds of each element of a list, after an element was added or another one put in its place.
use Rattle.std.proofs.Common.{◌≡◌, ◌≢◌, ℕ, ◌<◌, ◌≤◌, List, [], ◌∷◌, ◌++◌, length, get_or, set, sym, ap, ◌∙◌, subst, ◌⊎◌, inl, inr, arith, length-set}
use Rattle.std.proofs.lemmas.Bool.{cases_eq, cases_lt}
use Rattle.std.proofs.lemmas.List.{get_or_push, get_or_append_left, get_or-set_same, get_or-set_other, length_push}

pub push_each : {X : Type 0} (P : X → Type 0) (xs : List X) (y d : X) → ((i : ℕ) → i < length xs → P (get_or xs i d))
    → P y → (i : ℕ) → i < length (xs ++ y ∷ []) → P (get_or (xs ++ y ∷ []) i d)
push_each {X} P xs y d each last i lt = go (cases_lt i (length xs))
  where
    go : (i < length xs) ⊎ (length xs ≤ i) → P (get_or (xs ++ y ∷ []) i d)
    go (inl low) = subst (λ (x : X). P x) (sym (get_or_append_left xs (y ∷ []) d i low)) (each i low)
    go (inr le) =
        let same : length xs ≡ i = omega (arith, lt, le, length_push xs y) in
        subst (λ (x : X). P x) (sym (get_or_push xs y d i same)) last

pub set_each : {X : Type 0} (P : X → Type 0) (xs : List X) (i : ℕ) (y d : X) → i < length xs
    → ((k : ℕ) → k < length xs → P (get_or xs k d)) → P y
    → (k : ℕ) → k < length (set xs i y) → P (get_or (set xs i y) k d)
set_each {X} P xs i y d lt each new k low = go (cases_eq k i)
  where
    go : (k ≡ i) ⊎ (k ≢ i) → P (get_or (set xs i y) k d)
    go (inl same) =
        subst (λ (x : X). P x) (sym (ap (λ (n : ℕ). get_or (set xs i y) n d) same ∙ get_or-set_same xs i y d lt)) new
    go (inr other) =
        subst (λ (x : X). P x) (sym (get_or-set_other xs i k y d other))
        (each k (omega (arith, low, length-set xs i y)))

-- a function of the elements that the new element doesn't change
pub set_same : {X : Type 0} (f : X → ℕ) (xs : List X) (i : ℕ) (y d : X) → i < length xs → f y ≡ f (get_or xs i d)
    → (k : ℕ) → f (get_or (set xs i y) k d) ≡ f (get_or xs k d)
set_same f xs i y d lt e k = go (cases_eq k i)
  where
    go : (k ≡ i) ⊎ (k ≢ i) → f (get_or (set xs i y) k d) ≡ f (get_or xs k d)
    go (inl same) =
        ap (λ (n : ℕ). f (get_or (set xs i y) n d)) same
        ∙ (ap f (get_or-set_same xs i y d lt) ∙ (e ∙ ap (λ (n : ℕ). f (get_or xs n d)) (sym same)))
    go (inr other) = ap f (get_or-set_other xs i k y d other)

-- what holds of each element and its place
pub push_at : {X : Type 0} (P : ℕ → X → Type 0) (xs : List X) (y d : X)
    → ((i : ℕ) → i < length xs → P i (get_or xs i d)) → P (length xs) y
    → (i : ℕ) → i < length (xs ++ y ∷ []) → P i (get_or (xs ++ y ∷ []) i d)
push_at {X} P xs y d each last i lt = go (cases_lt i (length xs))
  where
    go : (i < length xs) ⊎ (length xs ≤ i) → P i (get_or (xs ++ y ∷ []) i d)
    go (inl low) = subst (λ (x : X). P i x) (sym (get_or_append_left xs (y ∷ []) d i low)) (each i low)
    go (inr le) =
        let same : length xs ≡ i = omega (arith, lt, le, length_push xs y) in
        subst (λ (s : ℕ × X). P s.0 s.1) (λ k. (same k, sym (get_or_push xs y d i same) k)) last
