-- The parts so far are those of the blocks that the seat drew.
use Rattle.std.proofs.Common.{IfOk}
use Rattle.pd_expand.specs.Claims.{IsSeatOf, block_count, drawn}
use Rattle.pd_expand.specs.ClaimRule.{times}
use Rattle.pd_expand.specs.Parts.{ArePartsOf}
use Rattle.pd_expand.proofs.workers.expand_drawn.Given as goal

abbrev pub invariant-loop : goal.invariant-loop
invariant-loop g l =
    (goal.iterator-loop g).can_next l.iterator'
    × (goal.iterator-loop g).is_finite l.iterator'
    × IsSeatOf l.claims l.seat
    × IfOk l.parts (λ parts. ArePartsOf l.computation.events l.level (block_count l.claims)
    (λ x. times x (drawn l.seat)) parts.items)
