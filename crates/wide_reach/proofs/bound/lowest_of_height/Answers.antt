-- The bound of one process more is lowered.
use Rattle.std.proofs.Common.{List, length, sym, ap, ◌∙◌, subst, arith}
use Rattle.wide_reach.specs.Bounds.{AreUnordered, IsLeastKey, Reaches}
use Rattle.wide_reach.specs.declared.key.Key.TheVariants.{Count}
use Rattle.std.specs.Prelude.{MatchOption}
use Rattle.wide_reach.proofs.Lowered.{lowered_all, lowered_by, lowered_none}
use Rattle.wide_reach.proofs.bound.lowest_of_height.Goals as goal

pub loop-process-init : goal.loop-process-init
loop-process-init c =
    lowered_none c.args.steps.now c.args.target c.args.full.now c.args.height c.requires.height
    c.in_ok-bound.bound.items c.in_ok-bound.ensures

pub least_key-requires-clause-steps : goal.least_key-requires-clause-steps
least_key-requires-clause-steps c =
    subst (λ (n : _). AreUnordered n c.args.steps.now)
    (sym (ap (λ (xs : List _). length xs) c.deref.ensures.value ∙ c.loop-process.invariant.one_each))
    c.requires.steps

pub loop-process-preserved : goal.loop-process-preserved
loop-process-preserved c =
    lowered_by c.args.steps.now c.args.target c.args.full.now c.args.height c.loop-process.bound.items
    c.loop-process.process c.in_ok-count.count c.index-kept.result.now c.unwrap_or.result c.loop-process.invariant
    c.loop-process-test.true
    (subst
    (λ (xs : List _). MatchOption c.in_ok-count.count (¬ Reaches c.args.steps.now c.args.target xs)
    (IsLeastKey c.args.steps.now c.args.target xs (Count c.loop-process.process)))
    c.deref.ensures.value c.in_ok-count.ensures)
    c.unwrap_or.ensures

pub returns : goal.returns
returns c =
    lowered_all c.args.steps.now c.args.target c.args.full.now c.args.height c.loop-process.bound.items
    c.loop-process.process c.loop-process.invariant
    (omega (arith, c.loop-process-test.false, c.loop-process.auto.process-end))
