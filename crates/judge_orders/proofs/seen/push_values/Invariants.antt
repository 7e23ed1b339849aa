-- The values of the variables so far were added.
use Rattle.std.proofs.Common.{◌≡◌, ◌++◌, take}
use Rattle.def_orders.specs.Orders.{values_after}
use Rattle.judge_orders.proofs.seen.push_values.Given as goal

abbrev pub invariant-loop-var : goal.invariant-loop-var
invariant-loop-var l =
    l.values.items ≡ l.fn.values.items ++ values_after l.computation l.p (take l.var-index l.vars) l.n
