-- The words of runs: one bit more, one run more, and a run that keeps its prefix.
use Rattle.std.proofs.Common.{◌≡◌, ℕ, zero, suc, ◌+◌, ◌*◌, ◌/◌, ◌%◌, ◌^◌, ◌<◌, ◌≤◌, ◌⊎◌, inl, inr, IsTrue, List, [], ◌∷◌, ◌++◌, length, get_or, nat_eq, arith, refl, sym, subst, ap, ◌∙◌}
use Rattle.std.proofs.Math.Nat.{pow-suc, pow-le-pow_right}
use Rattle.std.proofs.lemmas.Bool.{cases_lt, false≢true}
use Rattle.std.proofs.lemmas.Nat.Bits.{bit_at-suc, bit_at_lowest}
use Rattle.std.specs.Int.{bit_at}
use Rattle.walk_keys.specs.Words.{has_bit}
use Rattle.walk_marks.specs.SkippedRuns.{bit_limit}

-- the bits of a word that was moved up by one, with a new lowest bit
pub one_bit_more : (R : ℕ → Type 0) (word bit : ℕ) → bit ≤ 1
    → (bit ≡ 1 → R 0) → ((j : ℕ) → IsTrue (has_bit word j) → R (suc j))
    → (j : ℕ) → IsTrue (has_bit (word * 2 + bit) j) → R j
one_bit_more R word bit small low high zero set =
    low (bit_is (cases bit small))
  where
    cases : (n : ℕ) → n ≤ 1 → (n ≡ 0) ⊎ (n ≡ 1)
    cases zero le = inl refl
    cases (suc zero) le = inr refl
    cases (suc (suc n)) le = absurd (omega arith)

    bit_is : (bit ≡ 0) ⊎ (bit ≡ 1) → bit ≡ 1
    bit_is (inr one) = one
    bit_is (inl none) =
        let even : (word * 2 + bit) % 2 ≡ 0 = omega (arith, none) in
        absurd (false≢true (subst IsTrue (ap (λ (d : ℕ). nat_eq d 1) (bit_at_lowest (word * 2 + bit) ∙ even)) set))
one_bit_more R word bit small low high (suc j) set =
    let half : (word * 2 + bit) / 2 ≡ word = omega arith in
    high j (subst IsTrue (ap (λ (d : ℕ). nat_eq d 1) (bit_at-suc (word * 2 + bit) j
    ∙ ap (λ (n : ℕ). bit_at n j) half)) set)

-- there is room for one bit more
pub room : (k word bit : ℕ) → k < bit_limit → bit ≤ 1 → word < 2 ^ k → (word * 2 + bit < 2 ^ (k + 1))
    × (word * 2 + bit < 65536)
room k word bit lt small below =
    let up : 2 ^ suc k ≡ 2 ^ k * 2 = pow-suc 2 k in
    let at : suc k ≡ k + 1 = omega arith in
    let up' : 2 ^ (k + 1) ≡ 2 ^ k * 2 = subst (λ (n : ℕ). 2 ^ n ≡ 2 ^ k * 2) at up in
    let pos : 0 < 2 = omega arith in
    let most : 2 ^ k ≤ 2 ^ 15 = pow-le-pow_right pos (let le : k ≤ 15 = omega arith in le) in
    let most' : 2 ^ k ≤ 32768 = most in
    (omega arith, omega arith)

kept_word : (xs : List ℕ) (x k : ℕ) → k < length xs → get_or (xs ++ x ∷ []) k 0 ≡ get_or xs k 0
kept_word [] x k lt = absurd (omega arith)
kept_word (y ∷ xs) x zero lt = refl
kept_word (y ∷ xs) x (suc k) lt = kept_word xs x k (omega arith)

last_pushed : (xs : List ℕ) (x : ℕ) → get_or (xs ++ x ∷ []) (length xs) 0 ≡ x
last_pushed [] x = refl
last_pushed (y ∷ xs) x = last_pushed xs x

-- one word more
pub each_pushed : (P : ℕ → ℕ → Type 0) (xs ys : List ℕ) (x n : ℕ) → ys ≡ xs ++ x ∷ [] → length xs ≡ n
    → ((k : ℕ) → k < n → P k (get_or xs k 0)) → P n x → (k : ℕ) → k < n + 1 → P k (get_or ys k 0)
each_pushed P xs ys x n is many each new k lt =
    subst (λ (zs : List ℕ). P k (get_or zs k 0)) (sym is) (go (cases_lt k n))
  where
    go : (k < n) ⊎ (n ≤ k) → P k (get_or (xs ++ x ∷ []) k 0)
    go (inl less) = subst (P k) (sym (kept_word xs x k (omega (arith, many)))) (each k less)
    go (inr more) =
        let e : n ≡ k = omega arith in
        let f : length xs ≡ k = many ∙ e in
        subst (λ (m : ℕ). P k (get_or (xs ++ x ∷ []) m 0)) f
        (subst (P k) (sym (last_pushed xs x)) (subst (λ (m : ℕ). P m x) e new))
