-- The ids of two messages differ.
use Rattle.std.proofs.Common.{◌≡◌, ℕ, ◌+◌, ◌/◌, ◌%◌, List, get_or, ap, arith}
use Rattle.judge_reduced.specs.Plans.{message_id}

pub same_message : (p i q j : ℕ) → message_id p i ≡ message_id q j → (p ≡ q) × (i ≡ j)
same_message p i q j same = (
  let first : 97 + p ≡ 97 + q = ap (λ (id : List ℕ). get_or id 0 0) same in omega arith,
  let a : 48 + i / 1000 ≡ 48 + j / 1000 = ap (λ (id : List ℕ). get_or id 1 0) same in
      let b : 48 + i / 100 % 10 ≡ 48 + j / 100 % 10 = ap (λ (id : List ℕ). get_or id 2 0) same in
      let d : 48 + i / 10 % 10 ≡ 48 + j / 10 % 10 = ap (λ (id : List ℕ). get_or id 3 0) same in
      let e : 48 + i % 10 ≡ 48 + j % 10 = ap (λ (id : List ℕ). get_or id 4 0) same in
      omega arith,
)
