-- Sums over the members of a set.
use Rattle.std.proofs.Common.{◌≡◌, ◌≢◌, ℕ, zero, suc, ◌+◌, ◌*◌, ◌<◌, ◌≤◌, Bool, true, false, cond, List, [], ◌∷◌, length, get_or, set, refl, sym, ap, sum_by, arith}
use Rattle.std.proofs.lemmas.List.Sums.{sum_by-cons}
use Rattle.wide_flow.specs.Flows.{total}

pub total-set : (has : ℕ → Bool) (xs : List ℕ) (i y : ℕ) → i < length xs
    → total has (set xs i y) + cond (has i) (get_or xs i 0) 0 ≡ total has xs + cond (has i) y 0
total-set has [] i y lt = absurd (omega arith)
total-set has (x ∷ xs) zero y lt = omega arith
total-set has (x ∷ xs) (suc i) y lt =
    let less : i < length xs = omega arith in
    let e = total-set (λ i. has (suc i)) xs i y less in
    omega arith

pub total-le : (has other : ℕ → Bool) (xs : List ℕ)
    → ((i : ℕ) → i < length xs → cond (has i) (get_or xs i 0) 0 ≤ cond (other i) (get_or xs i 0) 0)
    → total has xs ≤ total other xs
total-le has other [] each = omega arith
total-le has other (x ∷ xs) each =
    let first : cond (has 0) x 0 ≤ cond (other 0) x 0 = each 0 (omega arith) in
    let rest = total-le (λ i. has (suc i)) (λ i. other (suc i)) xs (λ i lt. each (suc i) (omega (arith, lt))) in
    omega arith

pub total_bound : (has : ℕ → Bool) (xs : List ℕ) (m : ℕ) → ((i : ℕ) → i < length xs → get_or xs i 0 ≤ m)
    → total has xs ≤ length xs * m
total_bound has [] m each = omega arith
total_bound has (x ∷ xs) m each =
    let first : x ≤ m = each 0 (omega arith) in
    let part : cond (has 0) x 0 ≤ x = cond_le (has 0) x in
    let rest = total_bound (λ i. has (suc i)) xs m (λ i lt. each (suc i) (omega (arith, lt))) in
    omega arith
  where
    cond_le : (b : Bool) (x : ℕ) → cond b x 0 ≤ x
    cond_le true x = omega arith
    cond_le false x = omega arith

-- a sum over a list is at most another one, if each term is
pub sum_by-le_at : {X : Type 0} (f g : X → ℕ) (d : X) (xs : List X)
    → ((i : ℕ) → i < length xs → f (get_or xs i d) ≤ g (get_or xs i d)) → sum_by f xs ≤ sum_by g xs
sum_by-le_at f g d [] each = omega arith
sum_by-le_at f g d (x ∷ xs) each =
    let first : f x ≤ g x = each 0 (omega arith) in
    let rest = sum_by-le_at f g d xs (λ i lt. each (suc i) (omega (arith, lt))) in
    omega (arith, sum_by-cons f x xs, sum_by-cons g x xs)

-- the same members with the same numbers
pub total_same : (has other : ℕ → Bool) (xs ys : List ℕ) → length xs ≡ length ys
    → ((i : ℕ) → i < length xs → cond (has i) (get_or xs i 0) 0 ≡ cond (other i) (get_or ys i 0) 0)
    → total has xs ≡ total other ys
total_same has other [] [] same each = refl
total_same has other [] (y ∷ ys) same each = absurd (omega (arith, same))
total_same has other (x ∷ xs) [] same each = absurd (omega (arith, same))
total_same has other (x ∷ xs) (y ∷ ys) same each =
    let first : cond (has 0) x 0 ≡ cond (other 0) y 0 = each 0 (omega arith) in
    let rest =
    total_same (λ i. has (suc i)) (λ i. other (suc i)) xs ys (omega (arith, same))
    (λ i lt. each (suc i) (omega (arith, lt))) in
    omega arith

-- one member more
pub total_more : (has other : ℕ → Bool) (xs : List ℕ) (i : ℕ) → i < length xs → has i ≡ false → other i ≡ true
    → ((k : ℕ) → k ≢ i → has k ≡ other k) → total other xs ≡ total has xs + get_or xs i 0
total_more has other [] i lt out in_it same = absurd (omega (arith, lt))
total_more has other (x ∷ xs) zero lt out in_it same =
    let a : cond (has 0) x 0 ≡ 0 = ap (λ (b : Bool). cond b x 0) out in
    let b : cond (other 0) x 0 ≡ x = ap (λ (b : Bool). cond b x 0) in_it in
    let rest =
    total_same (λ k. other (suc k)) (λ k. has (suc k)) xs xs refl
    (λ k low. ap (λ (b : Bool). cond b (get_or xs k 0) 0) (sym (same (suc k) (λ e. absurd (omega (arith, e)))))) in
    omega (arith, a, b, rest)
total_more has other (x ∷ xs) (suc i) lt out in_it same =
    let a : cond (has 0) x 0 ≡ cond (other 0) x 0 =
    ap (λ (b : Bool). cond b x 0) (same 0 (λ e. absurd (omega (arith, e)))) in
    let rest =
    total_more (λ k. has (suc k)) (λ k. other (suc k)) xs i (omega (arith, lt)) out in_it
    (λ k apart. same (suc k) (λ e. apart (omega (arith, e)))) in
    omega (arith, a, rest)
