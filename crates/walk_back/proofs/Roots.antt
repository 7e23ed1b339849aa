-- The least number with a square that is no less than another is one.
use Rattle.std.proofs.Common.{◌≡◌, ℕ, ◌<◌, ◌⊎◌, inl, inr, arith}
use Rattle.std.proofs.lemmas.Bool.{cases_order}
use Rattle.walk_back.specs.Answers.{IsLeastRoot}

pub one_root : (r s n : ℕ) → IsLeastRoot r n → IsLeastRoot s n → r ≡ s
one_root r s n one other = go (cases_order r s)
  where
    go : (r ≡ s) ⊎ ((r < s) ⊎ (s < r)) → r ≡ s
    go (inl same) = same
    go (inr (inl low)) = absurd (let below = other.least r low in let enough = one.enough in omega arith)
    go (inr (inr high)) = absurd (let below = one.least s high in let enough = other.enough in omega arith)
