-- The values after the events so far.
use Rattle.std.proofs.Common.{◌≡◌, ◌∷◌, take}
use Rattle.std.specs.Prelude.{flat_map}
use Rattle.def_orders.specs.Orders.{values_after}
use Rattle.judge_orders.proofs.seen.values.Given as goal

abbrev pub invariant-loop-n : goal.invariant-loop-n
invariant-loop-n l =
    l.values.items ≡ flat_map (values_after l.computation l.p l.vars) (0 ∷ take l.n-index l.numbers)
