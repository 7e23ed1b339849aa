-- 1 is moved up.
use Rattle.std.proofs.Common.{◌≡◌, ◌-◌, ◌*◌, ◌^◌, ◌≤◌, arith}
use Rattle.walk_keys.specs.Keys.{count_base}
use Rattle.walk_keys.specs.Pairs.{single_limit}
use Rattle.walk_keys.proofs.Keys.{weight_le, weight_two}
use Rattle.walk_keys.proofs.single.one_before.Goals as goal

pub returns : goal.returns
returns c =
    let most : count_base ^ c.args.places ≤ count_base ^ (single_limit - 1) =
    weight_le c.args.places (single_limit - 1) (omega arith) in
    let same : count_base ^ c.args.places ≡ 2 ^ (16 * c.args.places) = weight_two c.args.places in
    omega arith
