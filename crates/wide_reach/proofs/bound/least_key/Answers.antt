-- The first key of the steps in order is the least one.
use Rattle.std.proofs.Common.{List, length, Option, sym, subst}
use Rattle.std.specs.Prelude.{MatchOption}
use Rattle.wide_flow.specs.Closed.{HasNoKey, IsFirstKey}
use Rattle.wide_flow.specs.Steps.{AreSteps}
use Rattle.wide_flow.specs.declared.step.Step.{Step}
use Rattle.wide_reach.specs.Bounds.{IsLeastKey, Reaches}
use Rattle.wide_reach.proofs.InOrder.{are_steps}
use Rattle.wide_reach.proofs.LeastKeys.{least_found}
use Rattle.wide_reach.proofs.bound.least_key.Goals as goal

pub first_key-requires-clause-steps : goal.first_key-requires-clause-steps
first_key-requires-clause-steps c =
    subst (λ (xs : List Step). AreSteps (length c.args.bound.now) xs) (sym c.deref.ensures.value)
    (are_steps (length c.args.bound.now) c.args.bound.now c.args.key c.args.steps.now c.in_ok-sorted.sorted.items
    c.requires.steps c.in_ok-sorted.ensures)

pub returns : goal.returns
returns c =
    subst
    (λ (o : Option _). MatchOption o (¬ Reaches c.args.steps.now c.args.target c.args.bound.now)
    (IsLeastKey c.args.steps.now c.args.target c.args.bound.now c.args.key))
    (sym c.inside.ensures)
    (least_found (length c.args.bound.now) c.args.bound.now c.args.key c.args.steps.now c.in_ok-sorted.sorted.items
    c.requires.steps c.in_ok-sorted.ensures c.args.target c.in_ok-first.first
    (subst (λ (xs : List Step). MatchOption c.in_ok-first.first (HasNoKey xs c.args.target)
    (IsFirstKey xs c.args.target)) c.deref.ensures.value c.in_ok-first.ensures))
