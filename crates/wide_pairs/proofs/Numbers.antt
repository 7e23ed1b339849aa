-- A row with one number more.
use Rattle.std.proofs.Common.{◌≡◌, ◌⊎◌, inl, inr, ℕ, ◌+◌, ◌-◌, ◌<◌, ◌≤◌, List, [], ◌∷◌, ◌++◌, length, length-append, get_or, refl, sym, ap, ◌∙◌, subst, ℤ, pos, arith}
use Rattle.std.proofs.lemmas.Bool.{cases_lt}
use Rattle.std.proofs.lemmas.List.{get_or-append_right, get_or_append_left, get_or_past}
use Rattle.wide_pairs.specs.Parts.{IsSmall, number_at}

-- the numbers before the last one stay, and the last is the new one
at_more : (xs : List ℤ) (x : ℤ) (n : ℕ) → n < length xs → number_at (xs ++ x ∷ []) n ≡ number_at xs n
at_more xs x n low = get_or_append_left xs (x ∷ []) (pos 0) n low

at_last : (xs : List ℤ) (x : ℤ) (n : ℕ) → n ≡ length xs → number_at (xs ++ x ∷ []) n ≡ x
at_last xs x n same =
    let none : n - length xs ≡ 0 = omega (arith, same) in
    get_or-append_right xs (x ∷ []) (length xs) n (pos 0) refl (omega (arith, same))
    ∙ ap (λ (k : ℕ). get_or (x ∷ []) k (pos 0)) none

-- what holds of the numbers before the last and of the last holds of all
pub each_more : (P : ℕ → ℤ → Type 0) (xs new : List ℤ) (x : ℤ) → new ≡ xs ++ x ∷ []
    → ((n : ℕ) → n < length xs → P n (number_at xs n)) → P (length xs) x → (n : ℕ) → n < length xs + 1
    → P n (number_at new n)
each_more P xs new x pushed before last n lt =
    subst (λ (ys : List ℤ). P n (number_at ys n)) (sym pushed) (go (cases_lt n (length xs)))
  where
    go : (n < length xs) ⊎ (length xs ≤ n) → P n (number_at (xs ++ x ∷ []) n)
    go (inl low) = subst (P n) (sym (at_more xs x n low)) (before n low)
    go (inr high) =
        let same : n ≡ length xs = omega arith in
        subst (P n) (sym (at_last xs x n same)) (subst (λ (k : ℕ). P k x) (sym same) last)

-- with one small number more all are small
pub small_more : (xs new : List ℤ) (x : ℤ) → new ≡ xs ++ x ∷ [] → ((n : ℕ) → IsSmall (number_at xs n)) → IsSmall x
    → (n : ℕ) → IsSmall (number_at new n)
small_more xs new x pushed before last n = go (cases_lt n (length xs + 1))
  where
    none : IsSmall (pos 0)
    none = subst IsSmall (get_or_past xs (length xs) (pos 0) (omega arith)) (before (length xs))

    long : length new ≡ length xs + 1
    long = ap length pushed ∙ length-append xs (x ∷ [])

    go : (n < length xs + 1) ⊎ (length xs + 1 ≤ n) → IsSmall (number_at new n)
    go (inl low) = each_more (λ k number. IsSmall number) xs new x pushed (λ k lt. before k) last n low
    go (inr high) = subst IsSmall (sym (get_or_past new n (pos 0) (omega (arith, long)))) none
