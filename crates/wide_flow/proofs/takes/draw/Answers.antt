-- A take is added.
use Rattle.std.proofs.Common.{◌≡◌, ◌+◌, ◌-◌, ◌<◌, ◌++◌, ◌∷◌, [], ℕ, List, length, get_or, set, sym, ◌∙◌, subst, arith, length-set}
use Rattle.wide_flow.specs.declared.takes.Take.{Take}
use Rattle.wide_flow.specs.Flows.{AreBalanced, AreBelow, AreTakes, IsTakenInside, no_take}
use Rattle.wide_flow.proofs.Lists.{push_each}
use Rattle.wide_flow.proofs.TakeSteps.{balanced_draw, inside_more, new_take, takes_more}
use Rattle.wide_flow.proofs.takes.draw.Goals as goal
use Rattle.wide_flow.proofs.takes.draw.Goals.{In_ok-add}

new_takes : (c : In_ok-add) → c.add.new.flow.takes.items
    ≡ c.args.flow.now.takes.items
    ++ new_take c.args.flow.now.last.items c.args.taker c.args.payer c.args.amount ∷ []
new_takes c =
    c.in_ok-add.ensures.takes
    ∙ (λ k.
    (c.lower.ensures.takes k).items
    ++ new_take (c.lower.ensures.last k).items c.args.taker c.args.payer c.args.amount ∷ [])

new_last : (c : In_ok-add) → c.add.new.flow.last.items
    ≡ set c.args.flow.now.last.items c.args.payer (length c.args.flow.now.takes.items + 1)
new_last c =
    c.in_ok-add.ensures.last
    ∙ (λ k. set (c.lower.ensures.last k).items c.args.payer (length (c.lower.ensures.takes k).items + 1))

new_left : (c : In_ok-add) → c.add.new.flow.left.items
    ≡ set c.args.flow.now.left.items c.args.payer (get_or c.args.flow.now.left.items c.args.payer 0 - c.args.amount)
new_left c = (λ k. (c.in_ok-add.ensures.left k).items) ∙ c.lower.ensures.left

pub returns-clause-flow : goal.returns-clause-flow
returns-clause-flow c =
    let flow = c.args.flow.now in
    let here = (goal.at.returns-clause-flow c).In_ok-add in
    let less = get_or flow.left.items c.args.payer 0 - c.args.amount in
    record {
      takes =
          subst (λ (s : List ℕ × List Take × List ℕ). AreTakes c.args.steps.now s.0 s.1 s.2)
          (λ k. (sym (new_left here) k, sym (new_takes here) k, sym (new_last here) k))
          (takes_more c.args.steps.now flow.left.items (set flow.left.items c.args.payer less) flow.takes.items
          flow.last.items c.args.taker c.args.payer c.args.amount c.requires.flow.takes c.requires.can c.requires.some
          (length-set flow.left.items c.args.payer less));
      balanced =
          subst (λ (s : List ℕ × List Take). AreBalanced c.args.steps.now s.0 s.1 c.args.taker c.args.amount)
          (λ k. (sym (new_left here) k, sym (new_takes here) k))
          (balanced_draw c.args.steps.now flow.left.items flow.takes.items
          (new_take flow.last.items c.args.taker c.args.payer c.args.amount) c.requires.flow.balanced
          (omega (arith, c.requires.flow.takes.left_each, c.requires.can.payer_there)) c.requires.enough);
    }

pub returns-clause-inside : goal.returns-clause-inside
returns-clause-inside c = λ has inside out.
    subst (λ (takes : List Take). IsTakenInside has takes)
    (sym (new_takes (goal.at.returns-clause-inside c).In_ok-add))
    (inside_more has c.args.flow.now.takes.items
    (new_take c.args.flow.now.last.items c.args.taker c.args.payer c.args.amount) inside out)

pub returns-clause-below : goal.returns-clause-below
returns-clause-below c = λ n below lt.
    subst (λ (takes : List Take). AreBelow n takes) (sym (new_takes (goal.at.returns-clause-below c).In_ok-add))
    (push_each (λ (t : Take). t.taker < n) c.args.flow.now.takes.items
    (new_take c.args.flow.now.last.items c.args.taker c.args.payer c.args.amount) no_take below lt)
