-- Among n + 1 numbers below n two are equal.
use Rattle.std.proofs.Common.{◌≡◌, ◌≢◌, ℕ, zero, suc, ◌<◌, ◌≤◌, sym, ◌∙◌, arith}
use Rattle.def_model.proofs.Decisions.{dec_eq, dec_some}

-- v in n's place
abbrev moved : (x n v : ℕ) → Dec (x ≡ n) → ℕ
moved x n v (yes e) = v
moved x n v (no h) = x

moved_below : (x n v : ℕ) (d : Dec (x ≡ n)) → x < suc n → v < suc n → x ≢ v → moved x n v d < n
moved_below x n v (yes e) a b apart =
    let f : v ≢ n = λ g. apart (e ∙ sym g) in omega arith
moved_below x n v (no h) a b apart = omega arith

moved_same : (x y n v : ℕ) (d : Dec (x ≡ n)) (e : Dec (y ≡ n)) → x ≢ v → y ≢ v → moved x n v d ≡ moved y n v e → x ≡ y
moved_same x y n v (yes a) (yes b) f g h = a ∙ sym b
moved_same x y n v (yes a) (no b) f g h = absurd (g (sym h))
moved_same x y n v (no a) (yes b) f g h = absurd (f h)
moved_same x y n v (no a) (no b) f g h = h

pub two_equal : (n : ℕ) (f : ℕ → ℕ) → ((i : ℕ) → i ≤ n → f i < n) → (i : ℕ) × (j : ℕ) × (i < j) × (j ≤ n) × (f i ≡ f j)
two_equal zero f below = let b : f 0 < 0 = below 0 (omega arith) in absurd (omega arith)
two_equal (suc n) f below =
    go (dec_some (λ i. f i ≡ f (suc n)) (λ i. dec_eq (f i) (f (suc n))) (suc n))
    (two_equal n (λ i. moved (f i) n (f (suc n)) (dec_eq (f i) n)))
  where
    go : Dec ((i : ℕ) × (i < suc n) × (f i ≡ f (suc n)))
        → (((i : ℕ) → i ≤ n → moved (f i) n (f (suc n)) (dec_eq (f i) n) < n) → (i : ℕ) × (j : ℕ) × (i < j) × (j ≤ n)
        × (moved (f i) n (f (suc n)) (dec_eq (f i) n) ≡ moved (f j) n (f (suc n)) (dec_eq (f j) n))) → (i : ℕ) × (j : ℕ)
        × (i < j) × (j ≤ suc n) × (f i ≡ f j)
    go (yes (i, lt, e)) rest = (i, suc n, lt, omega arith, e)
    go (no none) rest =
        let w : (i : ℕ) × (j : ℕ) × (i < j) × (j ≤ n)
        × (moved (f i) n (f (suc n)) (dec_eq (f i) n) ≡ moved (f j) n (f (suc n)) (dec_eq (f j) n)) =
        rest (λ i le. moved_below (f i) n (f (suc n)) (dec_eq (f i) n) (below i (omega arith))
        (below (suc n) (omega arith)) (λ e. none (i, omega arith, e))) in
        let lt : w.0 < w.1 = w.2 in
        let le : w.1 ≤ n = w.3 in (
          w.0,
          w.1,
          lt,
          omega arith,
          moved_same (f w.0) (f w.1) n (f (suc n)) (dec_eq (f w.0) n) (dec_eq (f w.1) n)
              (λ e. none (w.0, omega arith, e)) (λ e. none (w.1, omega arith, e)) w.4,
        )
