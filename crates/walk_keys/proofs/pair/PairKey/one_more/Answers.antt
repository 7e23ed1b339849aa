-- One event more is added to one of the two halves.
use Rattle.std.proofs.Common.{◌≡◌, ℕ, ◌+◌, ◌-◌, ◌*◌, ◌^◌, ◌<◌, ◌≤◌, get_or, ◌∙◌, subst, arith}
use Rattle.walk_keys.specs.Keys.{count_base, digits}
use Rattle.walk_keys.specs.Pairs.{pair_number, single_limit}
use Rattle.def_format.specs.Limits.{process_limit}
use Rattle.walk_keys.proofs.Keys.{weight_le}
use Rattle.walk_keys.proofs.PairNumbers.{first_below, high_digit, high_one, low_digit, place_digit, room_before}
use Rattle.walk_keys.proofs.pair.PairKey.one_more.Goals as goal

-- a half with a digit one greater
second_room : (n f s p : ℕ) → p < n → pair_number f s < count_base ^ n → s < count_base ^ single_limit
    → n - 1 - p < single_limit → get_or (digits n (pair_number f s)) p 0 + 1 < count_base
    → s + count_base ^ (n - 1 - p) < count_base ^ single_limit
second_room n f s p within below small low room =
    room_before single_limit s (n - 1 - p) low small (subst (λ (d : ℕ). d + 1 < count_base)
    (place_digit n (pair_number f s) p within below ∙ low_digit f s (n - 1 - p) low) room)

first_room : (n f s p : ℕ) → p < n → pair_number f s < count_base ^ n → s < count_base ^ single_limit
    → single_limit ≤ n - 1 - p → get_or (digits n (pair_number f s)) p 0 + 1 < count_base
    → f + count_base ^ (n - 1 - p - single_limit) < count_base ^ (n - single_limit)
first_room n f s p within below small high room =
    room_before (n - single_limit) f (n - 1 - p - single_limit) (omega arith) (first_below n f s (omega arith) below)
    (subst (λ (d : ℕ). d + 1 < count_base)
    (place_digit n (pair_number f s) p within below ∙ high_digit f s (n - 1 - p) high small) room)

pub overflow_add-result : goal.overflow_add-result
overflow_add-result c =
    let small : c.args.self.second < count_base ^ single_limit = omega arith in
    let room : c.args.self.second + count_base ^ (c.args.n - 1 - c.args.p) < count_base ^ single_limit =
    second_room c.args.n c.args.self.first c.args.self.second c.args.p c.requires.within c.requires.below small
    (omega (arith, c.if-places-lt-SINGLE_LIMIT.true)) c.requires.small in
    omega (arith, c.one_before.ensures)

pub overflow_add-result-else-places-lt-SINGLE_LIMIT : goal.overflow_add-result-else-places-lt-SINGLE_LIMIT
overflow_add-result-else-places-lt-SINGLE_LIMIT c =
    let small : c.args.self.second < count_base ^ single_limit = omega arith in
    let room : c.args.self.first + count_base ^ (c.args.n - 1 - c.args.p - single_limit)
    < count_base ^ (c.args.n - single_limit) =
    first_room c.args.n c.args.self.first c.args.self.second c.args.p c.requires.within c.requires.below small
    (omega (arith, c.if-places-lt-SINGLE_LIMIT.false)) c.requires.small in
    let few : c.args.n ≤ process_limit = c.requires.few in
    let most : count_base ^ (c.args.n - single_limit) ≤ count_base ^ single_limit =
    weight_le (c.args.n - single_limit) single_limit (omega arith) in
    omega (arith, c.one_before-else-places-lt-SINGLE_LIMIT.ensures)

pub returns-else-places-lt-SINGLE_LIMIT : goal.returns-else-places-lt-SINGLE_LIMIT
returns-else-places-lt-SINGLE_LIMIT c =
    let one : count_base ^ (c.args.n - 1 - c.args.p - single_limit) * count_base ^ single_limit
    ≡ count_base ^ (c.args.n - 1 - c.args.p) =
    high_one (c.args.n - 1 - c.args.p) (omega (arith, c.if-places-lt-SINGLE_LIMIT.false)) in
    omega (arith, c.one_before-else-places-lt-SINGLE_LIMIT.ensures)
