-- The parts so far are put together.
use Rattle.std.proofs.Common.{take}
use Rattle.pd_expand.specs.Parts.{IsUnionOf}
use Rattle.pd_expand.proofs.union.in_order.Given as goal

abbrev pub invariant-loop-i : goal.invariant-loop-i
invariant-loop-i l = IsUnionOf l.computation.events l.level (take l.i l.parts) l.next
