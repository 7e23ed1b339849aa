-- Rows in which one number is changed.
use Rattle.std.proofs.Common.{◌≡◌, ◌≢◌, ◌⊎◌, inl, inr, ℕ, ◌<◌, List, length, get_or, set, get_or-set_same, get_or-set_other, ◌∙◌, ap, subst, sym, ℤ, pos}
use Rattle.std.proofs.lemmas.Bool.{cases_eq}
use Rattle.walk_tables.specs.Parts.{row_at}
use Rattle.walk_tables.specs.Zero.{IsSmall}

pub set_here : (row : List ℤ) (n k : ℕ) (value : ℤ) → n < length row → k ≡ n → row_at (set row n value) k ≡ value
set_here row n k value lt eq =
    ap (λ (m : ℕ). get_or (set row n value) m (pos 0)) eq ∙ get_or-set_same row n value (pos 0) lt

pub set_there : (row : List ℤ) (n k : ℕ) (value : ℤ) → k ≢ n → row_at (set row n value) k ≡ row_at row k
set_there row n k value ne = get_or-set_other row n k value (pos 0) ne

pub set_small : (row : List ℤ) (n : ℕ) (value : ℤ) → n < length row → ((k : ℕ) → IsSmall (row_at row k))
    → IsSmall value → (k : ℕ) → IsSmall (row_at (set row n value) k)
set_small row n value lt all small k = go (cases_eq k n)
  where
    go : (k ≡ n) ⊎ (k ≢ n) → IsSmall (row_at (set row n value) k)
    go (inl eq) = subst IsSmall (sym (set_here row n k value lt eq)) small
    go (inr ne) = subst IsSmall (sym (set_there row n k value ne)) (all k)
