-- The variables that are seen have the same values.
use Rattle.std.proofs.Common.{◌≡◌, ◌+◌, take}
use Rattle.def_orders.specs.Orders.{values_after}
use Rattle.judge_orders.proofs.kept.is_kept.Given as goal

abbrev pub invariant-loop-var : goal.invariant-loop-var
invariant-loop-var l =
    values_after l.computation l.p (take l.var-index l.vars) l.n
    ≡ values_after l.computation l.p (take l.var-index l.vars) (l.n + 1)
