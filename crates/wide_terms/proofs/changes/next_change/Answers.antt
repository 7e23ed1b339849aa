-- The values are the same at one count more.
use Rattle.std.proofs.Common.{All, refl, arith}
use Rattle.wide_terms.specs.Changes.{VariableStays}
use Rattle.wide_terms.proofs.Changing.{all_one, one_count_more}
use Rattle.wide_terms.proofs.changes.next_change.Goals as goal

pub returns-then-vars-eq1-clause-stay : goal.returns-then-vars-eq1-clause-stay
returns-then-vars-eq1-clause-stay c = λ n after lt.
    all_one (VariableStays c.args.computation.now c.args.process c.args.from n) c.args.vars.now _ c.if-vars-eq1.true
    (c.next_change_of.ensures.stay n after lt)

pub loop-count-preserved : goal.loop-count-preserved
loop-count-preserved c =
    one_count_more (λ n. All (VariableStays c.args.computation.now c.args.process c.args.from n) c.args.vars.now)
    c.args.from c.loop-count.count c.loop-count.invariant (c.if-has_any_changed.ensures refl)

pub returns-clause-stay : goal.returns-clause-stay
returns-clause-stay c = λ n after lt. c.loop-count.invariant n after (omega arith)
