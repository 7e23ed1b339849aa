-- The places so far are marked.
use Rattle.std.specs.Prelude.{take}
use Rattle.judge_causes.specs.Reduced.{AreMarks}
use Rattle.pd_clock.specs.Orders.{places_view}
use Rattle.judge_causes.proofs.marks.marks_of.Given as goal

abbrev pub invariant-loop-receipt : goal.invariant-loop-receipt
invariant-loop-receipt l =
    AreMarks (places_view (take l.receipt-index l.places)) l.process l.len l.marks.items
