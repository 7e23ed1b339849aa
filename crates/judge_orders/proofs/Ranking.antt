-- How many numbers are at most a number.
use Rattle.std.proofs.Common.{◌≡◌, ◌+◌, ◌<◌, ◌≤◌, ◌⊎◌, inl, inr, ℕ, zero, suc, Bool, true, false, cond, List, [], ◌∷◌, ◌++◌, get_or, length, max, sym, ap, ◌∙◌, subst, arith}
use Rattle.std.specs.Prelude.{All, AllPairs, filter, nat_le}
use Rattle.std.proofs.lemmas.Bool.{cases_lt}
use Rattle.std.proofs.lemmas.Bool.Decides.{nat_tests}
use Rattle.std.proofs.lemmas.List.{get_or_append_left, get_or_push}
use Rattle.def_orders.specs.Orders.{count_up_to}
use Rattle.def_orders.proofs.Ranks.{count_within, first_ones}
use Rattle.judge_orders.specs.Ranked.{IsCountBelow}

pub count_none : (numbers : List ℕ) → IsCountBelow numbers 0 0
count_none numbers = record {
  there = omega arith;
  small = λ k lt. absurd (omega (arith, lt));
  great = λ k le lt. omega arith;
}

rest_none : (x : ℕ) (xs : List ℕ) (n : ℕ) → IsCountBelow (x ∷ xs) n 0 → IsCountBelow xs n 0
rest_none x xs n is = record {
  there = omega arith;
  small = λ k lt. absurd (omega (arith, lt));
  great = λ k le lt. is.great (suc k) (omega arith) (omega (arith, lt));
}

rest_some : (x : ℕ) (xs : List ℕ) (n count : ℕ) → IsCountBelow (x ∷ xs) n (suc count) → IsCountBelow xs n count
rest_some x xs n count is = record {
  there = omega (arith, is.there);
  small = λ k lt. is.small (suc k) (omega (arith, lt));
  great = λ k le lt. is.great (suc k) (omega (arith, le)) (omega (arith, lt));
}

passed : (x n : ℕ) → x < n + 1 → nat_le x n ≡ true
passed x n lt = grind (arith, nat_tests)

refused : (x n : ℕ) → n + 1 ≤ x → nat_le x n ≡ false
refused x n le = grind (arith, nat_tests)

-- the count is how many are at most n
pub count_is : (numbers : List ℕ) (n count : ℕ) → IsCountBelow numbers (n + 1) count
    → count ≡ count_up_to numbers n
count_is [] n count is = omega (arith, is.there)
count_is (x ∷ xs) n zero is =
    count_is xs n zero (rest_none x xs (n + 1) is)
    ∙ sym (ap (λ (b : Bool). length (cond b (x ∷ filter (λ m. nat_le m n) xs) (filter (λ m. nat_le m n) xs)))
    (refused x n (is.great 0 (omega arith) (omega arith))))
count_is (x ∷ xs) n (suc count) is =
    ap suc (count_is xs n count (rest_some x xs (n + 1) count is))
    ∙ sym (ap (λ (b : Bool). length (cond b (x ∷ filter (λ m. nat_le m n) xs) (filter (λ m. nat_le m n) xs)))
    (passed x n (is.small 0 (omega arith))))

-- one more count
pub counts_more : (numbers column : List ℕ) (n count : ℕ) → length column ≡ n
    → ((k : ℕ) → k < n → get_or column k 0 ≡ count_up_to numbers k) → IsCountBelow numbers (n + 1) count → (k : ℕ)
    → k < n + 1 → get_or (column ++ count ∷ []) k 0 ≡ count_up_to numbers k
counts_more numbers column n count many known is k lt = go (cases_lt k n)
  where
    go : (k < n) ⊎ (n ≤ k) → get_or (column ++ count ∷ []) k 0 ≡ count_up_to numbers k
    go (inl less) = get_or_append_left column (count ∷ []) 0 k (omega (arith, many, less)) ∙ known k less
    go (inr ge) =
        let same : n ≡ k = omega (arith, lt, ge) in
        subst (λ (j : ℕ). get_or (column ++ count ∷ []) j 0 ≡ count_up_to numbers j) same
        (get_or_push column count 0 n many ∙ count_is numbers n count is)

-- ---- how many are at most each of several numbers

-- the greater number has the greater count
count_grows : (numbers : List ℕ) (m n : ℕ) → m ≤ n → count_up_to numbers m ≤ count_up_to numbers n
count_grows [] m n le = omega arith
count_grows (x ∷ xs) m n le = go (cases_lt m x) (cases_lt n x) (count_grows xs m n le)
  where
    go : (m < x) ⊎ (x ≤ m) → (n < x) ⊎ (x ≤ n) → count_up_to xs m ≤ count_up_to xs n
        → count_up_to (x ∷ xs) m ≤ count_up_to (x ∷ xs) n
    go (inl out) (inl out') few = rw (refused x m (omega arith), refused x n (omega arith)) few
    go (inl out) (inr up) few = rw (refused x m (omega arith), passed x n (omega arith)) (omega (arith, few))
    go (inr up) (inl out) few = absurd (omega (arith, up, out, le))
    go (inr up) (inr up') few = rw (passed x m (omega arith), passed x n (omega arith)) (omega (arith, few))

pub count_greater : (numbers : List ℕ) (m n : ℕ)
    → count_up_to numbers (max m n) ≡ max (count_up_to numbers m) (count_up_to numbers n)
count_greater numbers m n = go (cases_lt m n)
  where
    go : (m < n) ⊎ (n ≤ m) → count_up_to numbers (max m n) ≡ max (count_up_to numbers m) (count_up_to numbers n)
    go (inl lt) =
        let more : count_up_to numbers m ≤ count_up_to numbers n = count_grows numbers m n (omega arith) in
        let is : max m n ≡ n = omega arith in
        ap (count_up_to numbers) is ∙ omega arith
    go (inr le) =
        let more : count_up_to numbers n ≤ count_up_to numbers m = count_grows numbers n m le in
        let is : max m n ≡ m = omega arith in
        ap (count_up_to numbers) is ∙ omega arith

-- so many are below the next number
pub count_below : (numbers : List ℕ) (n count : ℕ) → AllPairs (λ (k m : ℕ). k < m) numbers
    → count ≡ count_up_to numbers n → IsCountBelow numbers (n + 1) count
count_below numbers n count ascend is =
    subst (IsCountBelow numbers (n + 1)) (sym is) (record {
      there = most;
      small = λ k lt. omega (arith, (first_ones numbers ascend n k (omega (arith, lt, most))).1 lt);
      great = λ k le lt. great k le lt (cases_lt n (get_or numbers k 0));
    })
  where
    most : count_up_to numbers n ≤ length numbers
    most = count_within numbers n

    great : (k : ℕ) → count_up_to numbers n ≤ k → k < length numbers
        → (n < get_or numbers k 0) ⊎ (get_or numbers k 0 ≤ n) → n + 1 ≤ get_or numbers k 0
    great k le lt (inl out) = omega (arith, out)
    great k le lt (inr up) = absurd (omega (arith, le, (first_ones numbers ascend n k lt).0 up))

-- none of them is 0
pub count_zero : (numbers : List ℕ) → AllPairs (λ (k m : ℕ). k < m) numbers → All (λ n. 1 ≤ n) numbers
    → count_up_to numbers 0 ≡ 0
count_zero numbers ascend some = go (cases_lt 0 (count_up_to numbers 0))
  where
    go : (0 < count_up_to numbers 0) ⊎ (count_up_to numbers 0 ≤ 0) → count_up_to numbers 0 ≡ 0
    go (inr none) = omega (arith, none)
    go (inl has) =
        let there : 0 < length numbers = omega (arith, has, count_within numbers 0) in
        absurd (omega (arith, (first_ones numbers ascend 0 0 there).1 has, some 0 0 there))
