-- One event more has as many digits.
use Rattle.std.proofs.Common.{◌+◌, ◌-◌, ◌^◌, ◌<◌, ◌≤◌, arith}
use Rattle.walk_keys.specs.Keys.{count_base}
use Rattle.walk_keys.specs.Pairs.{single_limit}
use Rattle.walk_keys.proofs.Keys.{weight_le}
use Rattle.walk_keys.proofs.PairNumbers.{more_below}
use Rattle.walk_keys.proofs.single.U128Key.one_more.Goals as goal

pub overflow_add-result : goal.overflow_add-result
overflow_add-result c =
    let below : c.args.self + count_base ^ (c.args.n - 1 - c.args.p) < count_base ^ c.args.n =
    more_below c.args.n c.args.self c.args.p c.requires.within c.requires.below c.requires.small in
    let most : count_base ^ c.args.n ≤ count_base ^ single_limit = weight_le c.args.n single_limit c.requires.few in
    omega (arith, c.weight.ensures)
