-- The halves compare as the numbers do.
use Rattle.std.proofs.Common.{◌≡◌, ◌≢◌, ℕ, ◌^◌, ◌<◌, ◌∙◌, inl, inr, ◌⊎◌, arith}
use Rattle.std.proofs.lemmas.Bool.{cases_order}
use Rattle.std.proofs.lemmas.Bool.Decides.{nat_tests}
use Rattle.std.specs.Ordering.{nat_cmp}
use Rattle.walk_keys.specs.Keys.{count_base}
use Rattle.walk_keys.specs.Pairs.{single_limit, pair_number}
use Rattle.walk_keys.proofs.PairNumbers.{pair_order}
use Rattle.walk_keys.proofs.pair.order.Goals as goal

less : (x y u v : ℕ) → x < y → u < v → nat_cmp x y ≡ nat_cmp u v
less x y u v lt also = grind (arith, nat_tests)

more : (x y u v : ℕ) → y < x → v < u → nat_cmp x y ≡ nat_cmp u v
more x y u v lt also = grind (arith, nat_tests)

compare_pairs : (a b c d : ℕ) → b < count_base ^ single_limit → d < count_base ^ single_limit → a ≢ c
    → nat_cmp a c ≡ nat_cmp (pair_number a b) (pair_number c d)
compare_pairs a b c d small other apart = go (cases_order a c)
  where
    go : (a ≡ c) ⊎ ((a < c) ⊎ (c < a)) → nat_cmp a c ≡ nat_cmp (pair_number a b) (pair_number c d)
    go (inl e) = absurd (apart e)
    go (inr (inl lt)) =
        less a c (pair_number a b) (pair_number c d) lt ((pair_order a b c d small other apart).0 lt)
    go (inr (inr gt)) =
        more a c (pair_number a b) (pair_number c d) gt
        ((pair_order c d a b other small (λ e. absurd (omega arith))).0 gt)

pub returns-else-a-b : goal.returns-else-a-b
returns-else-a-b c =
    c.cmp-else-a-b.ensures
    ∙ compare_pairs c.args.a.first c.args.a.second c.args.b.first c.args.b.second (omega arith) (omega arith)
    c.if-a-b.false
