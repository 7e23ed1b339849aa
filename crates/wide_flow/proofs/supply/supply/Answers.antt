-- The step is paid, or what it has reached is frozen.
use Rattle.std.proofs.Common.{◌≡◌, ◌+◌, ◌<◌, ℕ, List, get_or, length, refl, sym, ◌∙◌, subst, arith}
use Rattle.std.proofs.lemmas.List.{get_or_read}
use Rattle.wide_flow.specs.declared.reach.Reached.{Reached}
use Rattle.wide_flow.specs.Flows.{CanTake, IsFlow}
use Rattle.wide_flow.specs.Searches.{IsEnded, IsFree, reached_at}
use Rattle.wide_flow.proofs.Freezing.{part_begun, part_frozen, part_next, part_paid, steps_low}
use Rattle.wide_flow.proofs.supply.supply.Goals as goal

pub lacking-init : goal.lacking-init
lacking-init c = record {
  part =
      part_begun (length c.args.rows.now) c.args.steps.now c.args.rows.now c.args.flow.now c.args.frozen.now.items
      c.args.e c.requires.part;
  same = λ s other positive. refl;
}

pub returns-in-None-clause-part : goal.returns-in-None-clause-part
returns-in-None-clause-part c =
    let found = c.in_ok-found.found in
    let ended : IsEnded (length c.args.rows.now) c.args.steps.now c.args.rows.now c.lacking.flow c.lacking.frozen.items
    found.reached.items found.tops.items =
    subst
    (λ (frozen : List ℕ).
    IsEnded (length c.args.rows.now) c.args.steps.now c.args.rows.now c.lacking.flow frozen found.reached.items
    found.tops.items)
    c.deref.ensures.value (rw c.in-None.is at c.in_ok-found.ensures.found) in
    part_frozen (length c.args.rows.now) c.args.steps.now c.args.rows.now c.lacking.flow c.lacking.frozen.items c.args.e
    c.requires.steps c.requires.rows c.lacking.invariant.part found.reached.items c.search.new.places found.tops.items
    ended c.in_ok-found.ensures.reached c.in_ok-found.ensures.first

pub lacking-preserved : goal.lacking-preserved
lacking-preserved c =
    let steps = c.args.steps.now in
    let rows = c.args.rows.now in
    let loop = c.lacking.invariant in
    let payer = c.in-Some.payer in
    let reached = c.in_ok-found.found.reached.items in
    let paid = c.in_ok-pay-in-Some.ensures in
    let free : IsFree steps c.lacking.flow reached payer.at payer.step =
    rw c.in-Some.is at c.in_ok-found.ensures.found in
    let can : CanTake steps (reached_at reached payer.at).step payer.step = free.can in
    record {
      part =
          part_paid (length rows) steps rows c.lacking.flow c.lacking.frozen.items c.args.e c.requires.steps
          c.requires.rows loop.part c.pay.new.flow payer.step paid.flow paid.none_more paid.same
          (paid.below (c.args.e + 1) loop.part.below
          (subst (λ (rs : List Reached). (j : ℕ) → j < length rs → (reached_at rs j).step < c.args.e + 1)
          (sym c.deref-in-Some.ensures.value)
          (steps_low steps c.lacking.flow c.args.e reached c.search.new.places c.in_ok-found.ensures.reached
          c.in_ok-found.ensures.first loop.part.below)))
          paid.inside can.payer_there can.negative free.some;
      same = λ s other positive. paid.same s other positive ∙ loop.same s other positive;
    }

pub returns-clause-part : goal.returns-clause-part
returns-clause-part c =
    let left = c.lacking.flow.left.items in
    let flow : IsFlow c.args.steps.now c.lacking.flow 0 0 = c.lacking.invariant.part.flow_is in
    let there : c.args.e < length left = omega (arith, c.requires.there, flow.takes.left_each) in
    let none : get_or left c.args.e 0 ≡ 0 =
    omega (arith, c.lacking-test.false, get_or_read left c.args.e _ there c.index.ensures 0) in
    part_next (length c.args.rows.now) c.args.steps.now c.args.rows.now c.lacking.flow c.lacking.frozen.items c.args.e
    c.requires.steps c.requires.rows c.lacking.invariant.part none
