-- One more variable stays, or none is left.
use Rattle.std.proofs.Common.{refl, arith}
use Rattle.wide_terms.specs.Changes.{VariableStays}
use Rattle.wide_terms.proofs.Changing.{all_more, all_none}
use Rattle.wide_terms.proofs.changes.has_any_changed.Goals as goal

pub loop-var-preserved : goal.loop-var-preserved
loop-var-preserved c = λ rest.
    c.loop-var.invariant
    (all_more (VariableStays c.args.computation.now c.args.process c.args.from c.args.count) c.args.vars.now
    c.loop-var.var-index _
    c.loop-var-test.true (c.if-has_changed.ensures refl) rest)

pub returns : goal.returns
returns c = λ same.
    c.loop-var.invariant
    (all_none (VariableStays c.args.computation.now c.args.process c.args.from c.args.count) c.args.vars.now
    c.loop-var.var-index
    (omega arith))
