-- The counts of the processes so far.
use Rattle.std.proofs.Common.{take}
use Rattle.judge_orders.specs.Lists.{lists_view}
use Rattle.judge_orders.specs.Ranked.{AddsRow}
use Rattle.pd_match.specs.Views.{place_view}
use Rattle.judge_orders.proofs.seen.push_row.Given as goal

abbrev pub invariant-loop-q : goal.invariant-loop-q
invariant-loop-q l =
    AddsRow l.computation.events (lists_view (take l.q l.columns)) (place_view l.event) l.fn.known.items l.known.items
