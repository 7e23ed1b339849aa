-- The number grows by one digit at a time, up to as many as there may be processes.
use Rattle.std.proofs.Common.{◌≡◌, ◌+◌, ◌-◌, ◌*◌, ◌^◌, ◌<◌, length, get_or, take, arith}
use Rattle.walk_keys.specs.Keys.{count_base, key_of}
use Rattle.walk_keys.proofs.Keys.{key_room, pack_more, key_more}
use Rattle.walk_keys.proofs.single.pack.Goals as goal
use Rattle.walk_keys.specs.Pairs.{single_limit}

pub overflow_mul-key : goal.overflow_mul-key
overflow_mul-key c =
    let room : key_of (take c.loop-count.count-index c.args.counts.now) < count_base ^ (single_limit - 1) =
    key_room c.args.counts.now c.loop-count.count-index (omega arith) c.requires c.loop-count.invariant.small in
    omega (arith, c.loop-count.invariant.so_far)

pub overflow_add-key : goal.overflow_add-key
overflow_add-key c =
    let room : key_of (take c.loop-count.count-index c.args.counts.now) < count_base ^ (single_limit - 1) =
    key_room c.args.counts.now c.loop-count.count-index (omega arith) c.requires c.loop-count.invariant.small in
    omega (arith, c.loop-count.invariant.so_far, c.from.ensures)

pub loop-count-preserved : goal.loop-count-preserved
loop-count-preserved c =
    let lt : c.loop-count.count-index < length c.args.counts.now = omega arith in
    let digit : get_or c.args.counts.now c.loop-count.count-index 0 < count_base =
    omega (arith, c.if-from-ge-COUNT_BASE.false, c.from-in-loop-count.ensures) in
    let more : key_of (take (c.loop-count.count-index + 1) c.args.counts.now)
    ≡ key_of (take c.loop-count.count-index c.args.counts.now) * count_base
    + get_or c.args.counts.now c.loop-count.count-index 0 =
    key_more c.args.counts.now c.loop-count.count-index lt in
    record {
      small = pack_more c.args.counts.now c.loop-count.count-index lt digit c.loop-count.invariant.small;
      so_far = omega (arith, c.loop-count.invariant.so_far, c.from.ensures);
    }
