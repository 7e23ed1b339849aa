-- The first number that isn't less than the least one is past the greatest, or there is none.
use Rattle.std.proofs.Common.{◌≡◌, ◌<◌, get_or, length, pos, arith, rules}
use Rattle.std.proofs.lemmas.Int.{ints}
use Rattle.std.proofs.lemmas.List.{get_or_default}
use Rattle.walk_tables.proofs.Ascents.{none_between}
use Rattle.walk_tables.proofs.points.Points.has_between.Goals as goal

pub returns-then-i-len : goal.returns-then-i-len
returns-then-i-len c outside value between =
    let points = c.args.self.now.values.items in
    let at = c.count_below-i.result in
    let below = rw c.deref.ensures.value at c.count_below-i.ensures.below in
    let found = c.index.result.now in
    let is : found ≡ get_or points at found = search rules in
    let within : at < length points = omega (arith, c.if-i-len.true, c.len.ensures) in
    let same = get_or_default points at found (pos 0) within in
    none_between points at c.args.least c.args.greatest value c.args.self.now.ascend
    (λ k lt. omega (arith, ints, below k lt)) (λ lt. omega (arith, ints, outside, is, same)) between

pub returns-else-i-len : goal.returns-else-i-len
returns-else-i-len c outside value between =
    let points = c.args.self.now.values.items in
    let at = c.count_below-i.result in
    let below = rw c.deref.ensures.value at c.count_below-i.ensures.below in
    none_between points at c.args.least c.args.greatest value c.args.self.now.ascend
    (λ k lt. omega (arith, ints, below k lt)) (λ lt. absurd (omega (arith, lt, c.if-i-len.false, c.len.ensures)))
    between
