-- Lists that grow by one, and prefixes that are the whole list.
use Rattle.std.proofs.Common.{◌≡◌, ◌⊎◌, ◌+◌, ◌<◌, ◌≤◌, ℕ, zero, suc, List, [], ◌∷◌, ◌++◌, length, take, length-take, refl, ◌∙◌, arith, inl, inr, Some}
use Rattle.std.specs.Prelude.{slice_get}
use Rattle.std.proofs.lemmas.List.{take_all}
use Rattle.std.proofs.lemmas.Bool.{cases_lt}

-- what stands before the last one stays
pub get_push_before : {A : Type 0} (xs : List A) (x : A) (k : ℕ) → k < length xs
    → slice_get (xs ++ x ∷ []) k ≡ slice_get xs k
get_push_before [] x k lt = absurd (omega arith)
get_push_before (y ∷ xs) x zero lt = refl
get_push_before (y ∷ xs) x (suc k) lt = get_push_before xs x k (omega arith)

-- the last one is the one that was added
pub get_push_last : {A : Type 0} (xs : List A) (x : A) (k : ℕ) → k ≡ length xs → slice_get (xs ++ x ∷ []) k ≡ Some x
get_push_last [] x zero e = refl
get_push_last [] x (suc k) e = absurd (omega arith)
get_push_last (y ∷ xs) x zero e = absurd (omega arith)
get_push_last (y ∷ xs) x (suc k) e = get_push_last xs x k (omega arith)

-- what was taken of a list, up to one more than n, and isn't over n is the whole list
pub whole_input : (input bytes : List ℕ) (n : ℕ) → bytes ≡ take (n + 1) input → length bytes ≤ n → bytes ≡ input
whole_input input bytes n e le = e ∙ go (cases_lt n (length input))
  where
    go : (n < length input) ⊎ (length input ≤ n) → take (n + 1) input ≡ input
    go (inl long) =
        let count : length bytes ≡ length (take (n + 1) input) = rw e refl in
        absurd (omega (arith, length-take (n + 1) input))
    go (inr short) = take_all (n + 1) input (omega arith)
