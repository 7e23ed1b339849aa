-- Two halves of the workers come to all of them.
use Rattle.std.proofs.Common.{rules}
use Rattle.pd_expand.specs.Claims.{block_count}
use Rattle.pd_expand.proofs.PartFacts.{Keeps, both_kept, sole_seat}
use Rattle.pd_expand.proofs.workers.+expand_halves+fn-expand_halves-join_mut+arg2+fn-expand_halves-join_mut+arg3.Goals as goal

pub returns-then-seats-eq1-clause-parts : goal.returns-then-seats-eq1-clause-parts
returns-then-seats-eq1-clause-parts g t c =
    sole_seat c.args.computation.now.events c.args.level.now (block_count c.args.claims.now) c.expand_drawn.result
    c.args.seats.now c.expand_drawn.new.seat c.if-seats-eq1.true c.expand_drawn.ensures.parts

pub returns-clause-parts : goal.returns-clause-parts
returns-clause-parts g t c =
    let events = c.args.computation.now.events in
    let level = c.args.level.now in
    let blocks = block_count c.args.claims.now in
    let first : Keeps events level blocks c.join_mut-first.result.0 c.first_seats-1.given.0 = search rules in
    let last : Keeps events level blocks c.join_mut-first.result.1 c.last_seats-1.given.0 = search rules in
    both_kept events level blocks c.join_mut-first.result.0 c.join_mut-first.result.1 c.both_halves.result
    c.first_seats-1.given.0 c.last_seats-1.given.0 first last c.both_halves.ensures.ok c.both_halves.ensures.both
