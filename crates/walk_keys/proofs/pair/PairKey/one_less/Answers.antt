-- The event that is undone is taken from the half that has it.
use Rattle.std.proofs.Common.{◌≡◌, ℕ, ◌-◌, ◌*◌, ◌^◌, ◌<◌, ◌≤◌, get_or, ◌∙◌, subst, arith}
use Rattle.walk_keys.specs.Keys.{count_base, digits}
use Rattle.walk_keys.specs.Pairs.{pair_number, single_limit}
use Rattle.walk_keys.proofs.PairNumbers.{high_digit, high_one, low_digit, place_digit, some_before}
use Rattle.walk_keys.proofs.pair.PairKey.one_less.Goals as goal

second_some : (n f s p : ℕ) → p < n → pair_number f s < count_base ^ n → n - 1 - p < single_limit
    → 0 < get_or (digits n (pair_number f s)) p 0 → count_base ^ (n - 1 - p) ≤ s
second_some n f s p within below low some =
    some_before s (n - 1 - p) (subst (λ (d : ℕ). 0 < d)
    (place_digit n (pair_number f s) p within below ∙ low_digit f s (n - 1 - p) low) some)

first_some : (n f s p : ℕ) → p < n → pair_number f s < count_base ^ n → s < count_base ^ single_limit
    → single_limit ≤ n - 1 - p → 0 < get_or (digits n (pair_number f s)) p 0
    → count_base ^ (n - 1 - p - single_limit) ≤ f
first_some n f s p within below small high some =
    some_before f (n - 1 - p - single_limit) (subst (λ (d : ℕ). 0 < d)
    (place_digit n (pair_number f s) p within below ∙ high_digit f s (n - 1 - p) high small) some)

pub overflow_sub-result : goal.overflow_sub-result
overflow_sub-result c =
    let room : count_base ^ (c.args.n - 1 - c.args.p) ≤ c.args.self.second =
    second_some c.args.n c.args.self.first c.args.self.second c.args.p c.requires.within c.requires.below
    (omega (arith, c.if-places-lt-SINGLE_LIMIT.true)) c.requires.some in
    omega (arith, c.one_before.ensures)

pub overflow_sub-result-else-places-lt-SINGLE_LIMIT : goal.overflow_sub-result-else-places-lt-SINGLE_LIMIT
overflow_sub-result-else-places-lt-SINGLE_LIMIT c =
    let small : c.args.self.second < count_base ^ single_limit = omega arith in
    let room : count_base ^ (c.args.n - 1 - c.args.p - single_limit) ≤ c.args.self.first =
    first_some c.args.n c.args.self.first c.args.self.second c.args.p c.requires.within c.requires.below small
    (omega (arith, c.if-places-lt-SINGLE_LIMIT.false)) c.requires.some in
    omega (arith, c.one_before-else-places-lt-SINGLE_LIMIT.ensures)

pub returns-then-places-lt-SINGLE_LIMIT : goal.returns-then-places-lt-SINGLE_LIMIT
returns-then-places-lt-SINGLE_LIMIT c =
    let room : count_base ^ (c.args.n - 1 - c.args.p) ≤ c.args.self.second =
    second_some c.args.n c.args.self.first c.args.self.second c.args.p c.requires.within c.requires.below
    (omega (arith, c.if-places-lt-SINGLE_LIMIT.true)) c.requires.some in
    omega (arith, c.one_before.ensures)

pub returns-else-places-lt-SINGLE_LIMIT : goal.returns-else-places-lt-SINGLE_LIMIT
returns-else-places-lt-SINGLE_LIMIT c =
    let small : c.args.self.second < count_base ^ single_limit = omega arith in
    let one : count_base ^ (c.args.n - 1 - c.args.p - single_limit) * count_base ^ single_limit
    ≡ count_base ^ (c.args.n - 1 - c.args.p) =
    high_one (c.args.n - 1 - c.args.p) (omega (arith, c.if-places-lt-SINGLE_LIMIT.false)) in
    let room : count_base ^ (c.args.n - 1 - c.args.p - single_limit) ≤ c.args.self.first =
    first_some c.args.n c.args.self.first c.args.self.second c.args.p c.requires.within c.requires.below small
    (omega (arith, c.if-places-lt-SINGLE_LIMIT.false)) c.requires.some in
    omega (arith, c.one_before-else-places-lt-SINGLE_LIMIT.ensures)
