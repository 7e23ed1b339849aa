-- A digit stands in one of the two halves.
use Rattle.std.proofs.Common.{◌-◌, ◌^◌, ◌<◌, sym, ◌∙◌, arith}
use Rattle.walk_keys.specs.Keys.{count_base}
use Rattle.walk_keys.specs.Pairs.{pair_number, single_limit}
use Rattle.walk_keys.proofs.PairNumbers.{high_digit, low_digit, place_digit}
use Rattle.walk_keys.proofs.pair.PairKey.digit.Goals as goal

pub returns-then-places-lt-SINGLE_LIMIT : goal.returns-then-places-lt-SINGLE_LIMIT
returns-then-places-lt-SINGLE_LIMIT c =
    c.digit_before.ensures
    ∙ sym (place_digit c.args.n (pair_number c.args.self.first c.args.self.second) c.args.p c.requires.within
    c.requires.below
    ∙ low_digit c.args.self.first c.args.self.second (c.args.n - 1 - c.args.p)
    (omega (arith, c.if-places-lt-SINGLE_LIMIT.true)))

pub returns-else-places-lt-SINGLE_LIMIT : goal.returns-else-places-lt-SINGLE_LIMIT
returns-else-places-lt-SINGLE_LIMIT c =
    let small : c.args.self.second < count_base ^ single_limit = omega arith in
    c.digit_before-else-places-lt-SINGLE_LIMIT.ensures
    ∙ sym (place_digit c.args.n (pair_number c.args.self.first c.args.self.second) c.args.p c.requires.within
    c.requires.below
    ∙ high_digit c.args.self.first c.args.self.second (c.args.n - 1 - c.args.p)
    (omega (arith, c.if-places-lt-SINGLE_LIMIT.false)) small)
