-- Each part comes to those before it.
use Rattle.std.proofs.Common.{◌<◌, get_or, length, refl, arith}
use Rattle.pd_expand.proofs.PartFacts.{part_consistent, part_more}
use Rattle.pd_expand.proofs.union.in_order.Goals as goal

pub with_cuts_of-requires-clause-last : goal.with_cuts_of-requires-clause-last
with_cuts_of-requires-clause-last c =
    let parts = c.args.parts.now in
    let part = c.index-parts-i.result in
    let lt : c.loop-i.i < length parts = omega arith in
    part_consistent c.args.computation.now.events c.args.level.now (get_or parts c.loop-i.i part)
    (c.requires c.loop-i.i part lt)

pub loop-i-preserved : goal.loop-i-preserved
loop-i-preserved c =
    let parts = c.args.parts.now in
    let part = c.index-parts-i.result in
    let lt : c.loop-i.i < length parts = omega arith in
    part_more c.args.computation.now.events c.args.level.now c.loop-i.next c.in_ok-next-2.next parts c.loop-i.i part
    (get_or parts c.loop-i.i part) lt refl c.requires c.loop-i.invariant c.in_ok-next-2.ensures.list
    c.in_ok-next-2.ensures.number
