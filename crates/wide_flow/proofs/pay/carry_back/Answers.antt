-- The excess is one step further back.
use Rattle.std.proofs.Common.{◌<◌, ◌≤◌, length, ap, ◌∙◌, arith}
use Rattle.wide_flow.specs.Flows.{IsFlow}
use Rattle.wide_flow.specs.Searches.{IsReachedFrom, reached_at}
use Rattle.wide_flow.proofs.PaySteps.{from_after, from_outside}
use Rattle.wide_flow.proofs.pay.carry_back.Goals as goal

pub loop-at-preserved : goal.loop-at-preserved
loop-at-preserved c =
    let steps = c.args.steps.now in
    let reached = c.args.reached.now in
    let at = c.loop-at.at in
    let loop = c.loop-at.invariant in
    let pos : 0 < at = omega (arith, c.loop-at-test.true) in
    let takes = c.loop-at.flow.takes.items in
    let is : IsReachedFrom steps takes reached at = loop.from at pos (omega arith) in
    let there : at < length reached = loop.there in
    let less : (reached_at reached at).from < at = is.earlier in
    let narrow : (reached_at reached at).room ≤ (reached_at reached (reached_at reached at).from).room = is.narrow in
    let low : (reached_at reached at).from < length reached = omega (arith, less, there) in
    let flow : IsFlow steps c.loop-at.flow (reached_at reached at).step c.args.amount = loop.flow in
    let out = c.in_ok-hand_over.ensures in
    record {
      there = low;
      flow = out.flow;
      from =
          from_after steps takes c.hand_over.new.flow.takes.items reached at there pos c.requires.once loop.from
          out.takes
          out.longer;
      enough = omega (arith, narrow, loop.enough);
      left = out.left ∙ loop.left;
      below = λ n below each.
          out.below n (loop.below n below each) (each (reached_at reached at).from low);
      inside = λ has closed inside outside.
          let now = loop.inside has closed inside outside in (
            out.inside has now.0 (ap has is.own ∙ now.1),
            from_outside steps takes reached at has is (flow.takes.each (reached_at reached at).by is.there)
                (c.requires.steps (reached_at reached at).from low) closed now.0 now.1,
          );
    }
