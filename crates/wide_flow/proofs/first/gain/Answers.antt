-- One step more is supplied, or reaches the target.
use Rattle.std.proofs.Common.{◌≡◌, ◌+◌, ◌<◌, true, false, length, sym, ◌∙◌, arith}
use Rattle.std.proofs.lemmas.List.{get_or_read}
use Rattle.wide_flow.specs.Steps.{is_negative}
use Rattle.wide_flow.specs.Flows.{IsFlow, total}
use Rattle.wide_flow.proofs.Gains.{few_left, first_found, handled, handled_more, handled_none, handled_skip, none_reaches, part_skipped}
use Rattle.wide_flow.proofs.first.gain.Goals as goal
use Rattle.wide_flow.proofs.first.gain.Goals.{After-index}

pub loop-e-init : goal.loop-e-init
loop-e-init c = record {
  part = c.requires.part;
  gained = sym (handled_none c.args.steps.now c.args.flow.now.left.items);
  less = c.requires.some;
}

-- what was gained with this step
more : (c : After-index) → c.loop-e.gained + c.index.result.now
    ≡ total (handled c.args.steps.now (c.loop-e.e + 1)) c.supply.new.flow.left.items
more c =
    let steps = c.args.steps.now in
    let e = c.loop-e.e in
    let left = c.loop-e.flow.left.items in
    let left' = c.supply.new.flow.left.items in
    let old : IsFlow steps c.loop-e.flow 0 0 = c.loop-e.invariant.part.flow_is in
    let new : IsFlow steps c.supply.new.flow 0 0 = c.in_ok-supply.ensures.part.flow_is in
    let there : e < length left' = omega (arith, c.loop-e-test.true, new.takes.left_each) in
    let positive : is_negative steps e ≡ false = c.is_positive.ensures.positive c.if-not-is_positive.false in
    let long : length left ≡ length left' = old.takes.left_each ∙ sym new.takes.left_each in
    omega (
      arith,
      c.loop-e.invariant.gained,
      get_or_read left' e _ there c.index.ensures 0,
      handled_more steps left left' e there long positive c.in_ok-supply.ensures.same,
    )

pub overflow_add-gained : goal.overflow_add-gained
overflow_add-gained c =
    let at = (goal.at.overflow_add-gained c).After-index in
    let steps = c.args.steps.now in
    let few =
    few_left (length c.args.rows.now) steps c.supply.new.flow (handled steps (c.loop-e.e + 1)) c.requires.steps
    c.in_ok-supply.ensures.part.flow_is in
    record { fits = omega (arith, more at, few) }

pub returns-then-gained-target : goal.returns-then-gained-target
returns-then-gained-target c =
    let at = (goal.at.returns-then-gained-target c).After-index in
    first_found (length c.args.rows.now) c.args.steps.now c.args.rows.now c.loop-e.flow c.supply.new.flow
    c.loop-e.frozen.items c.supply.new.frozen.items c.loop-e.e c.args.target c.requires.steps c.loop-e-test.true
    c.loop-e.invariant.part c.in_ok-supply.ensures.part
    (omega (arith, c.loop-e.invariant.gained, c.loop-e.invariant.less))
    (omega (arith, more at, c.if-gained-target.true))

pub loop-e-preserved-then-not-is_positive : goal.loop-e-preserved-then-not-is_positive
loop-e-preserved-then-not-is_positive c =
    let steps = c.args.steps.now in
    let negative : is_negative steps c.loop-e.e ≡ true = c.is_positive.ensures.negative c.if-not-is_positive.true in
    record {
      part =
          part_skipped (length c.args.rows.now) steps c.args.rows.now c.loop-e.flow c.loop-e.frozen.items c.loop-e.e
          c.loop-e.invariant.part negative;
      gained = c.loop-e.invariant.gained ∙ handled_skip steps c.loop-e.flow.left.items c.loop-e.e negative;
      less = c.loop-e.invariant.less;
    }

pub loop-e-preserved : goal.loop-e-preserved
loop-e-preserved c = record {
  part = c.in_ok-supply.ensures.part;
  gained = more (goal.at.loop-e-preserved c).After-index;
  less = omega (arith, c.if-gained-target.false);
}

pub returns : goal.returns
returns c =
    none_reaches (length c.args.rows.now) c.args.steps.now c.args.rows.now c.loop-e.flow c.loop-e.frozen.items
    c.loop-e.e
    c.loop-e.invariant.part c.args.target (omega (arith, c.loop-e.invariant.gained, c.loop-e.invariant.less))
    (omega (arith, c.loop-e-test.false))
