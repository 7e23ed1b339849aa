-- The sums of no process.
use Rattle.std.proofs.Common.{sym, subst}
use Rattle.wide_gates.specs.Greatest.{AreBoxSums}
use Rattle.wide_gates.proofs.Products.{no_sums}
use Rattle.wide_gates.proofs.greatest.box_sums.Goals as goal

pub loop-q-init : goal.loop-q-init
loop-q-init c =
    subst (AreBoxSums c.args.boxes.now c.args.values.now 0)
    (sym (c.in_ok-sums.ensures.items_if_clones_equal (λ x same. same))) (no_sums c.args.boxes.now c.args.values.now)
