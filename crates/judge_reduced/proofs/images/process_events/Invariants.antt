-- The events so far are planned.
use Rattle.std.proofs.Common.{◌≡◌, ◌*◌, ◌≤◌, List, length}
use Rattle.def_format.specs.Names.{ProcessNames, vars_of}
use Rattle.judge_orders.specs.Lists.{lists_view}
use Rattle.judge_reduced.specs.Planned.{IsPlanned}
use Rattle.judge_reduced.proofs.images.process_events.Given as goal

abbrev pub invariant-loop-i : goal.invariant-loop-i
invariant-loop-i l = record {
  last : length l.last.items ≡ length l.computation.events;
  planned : (names : List ProcessNames) → l.count ≡ length (vars_of names l.p)
      → IsPlanned names l.computation l.vars (lists_view l.numbers) l.p l.i l.events l.last.items;
  few : length l.events ≤ l.i * length l.computation.events;
}
