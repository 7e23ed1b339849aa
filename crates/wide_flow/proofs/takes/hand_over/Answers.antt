-- Another step takes all of a take, or a part of it.
use Rattle.std.proofs.Common.{◌≡◌, ◌+◌, ◌-◌, ◌<◌, ◌≤◌, ◌++◌, ◌∷◌, [], ℕ, false, List, length, set, sym, ap, ◌∙◌, subst, refl, arith, length-set}
use Rattle.std.proofs.lemmas.List.{get_or_append_left, get_or-set_other, get_or_read}
use Rattle.wide_flow.specs.declared.takes.Take.{Take}
use Rattle.wide_flow.specs.Flows.{AreBalanced, AreBelow, AreTakes, CanTake, IsTakenInside, no_take, take_at}
use Rattle.wide_flow.proofs.Lists.{push_each, set_each}
use Rattle.wide_flow.proofs.TakeSteps.{balanced_all, balanced_part, inside_more, inside_set, new_take, payer_outside, takes_more, takes_set}
use Rattle.wide_flow.proofs.takes.hand_over.Goals as goal
use Rattle.wide_flow.proofs.takes.hand_over.Goals.{In_ok-add, After-index-take}

here : (c : After-index-take) → c.index-take.result.now ≡ take_at c.args.flow.now.takes.items c.args.i
here c = get_or_read c.args.flow.now.takes.items c.args.i _ c.requires.there c.index-take.ensures no_take

can : (c : After-index-take) → CanTake c.args.steps.now c.args.taker c.index-take.result.now.payer
can c = subst (λ (t : Take). CanTake c.args.steps.now c.args.taker t.payer) (sym (here c)) c.requires.can

pub returns-then-take-amount-clause-flow : goal.returns-then-take-amount-clause-flow
returns-then-take-amount-clause-flow c =
    let flow = c.args.flow.now in
    let at = (goal.at.returns-then-take-amount-clause-flow c).After-index-take in
    let old = c.index-take.result.now in
    let e : old ≡ take_at flow.takes.items c.args.i = here at in
    let all : (take_at flow.takes.items c.args.i).amount ≡ c.args.amount =
    ap (λ (t : Take). t.amount) (sym e) ∙ c.if-take-amount.true in
    let take : Take = record { taker = c.args.taker; payer = old.payer; amount = old.amount; before = old.before } in
    record {
      takes =
          subst (λ (s : List ℕ × List Take × List ℕ). AreTakes c.args.steps.now s.0 s.1 s.2)
          (λ k. (
            (sym c.replace.ensures.left k).items,
            sym c.replace.ensures.takes k,
            (sym c.replace.ensures.last k).items,
          ))
          (takes_set c.args.steps.now flow.left.items flow.takes.items flow.last.items c.args.i take
          c.requires.flow.takes c.requires.there (ap (λ (t : Take). t.payer) e) (ap (λ (t : Take). t.before) e) (can at)
          (omega (arith, c.if-take-amount.true, c.requires.some)));
      balanced =
          subst (λ (s : List ℕ × List Take × ℕ). AreBalanced c.args.steps.now s.0 s.1 c.args.taker s.2)
          (λ k. ((sym c.replace.ensures.left k).items, sym c.replace.ensures.takes k, all k))
          (balanced_all c.args.steps.now flow.left.items flow.takes.items c.args.i take c.requires.there
          (ap (λ (t : Take). t.payer) e) (ap (λ (t : Take). t.amount) e)
          (subst
          (λ (n : ℕ).
          AreBalanced c.args.steps.now flow.left.items flow.takes.items (take_at flow.takes.items c.args.i).taker n)
          (sym all) c.requires.flow.balanced));
    }

pub returns-then-take-amount-clause-inside : goal.returns-then-take-amount-clause-inside
returns-then-take-amount-clause-inside c = λ has inside out.
    let flow = c.args.flow.now in
    let old = c.index-take.result.now in
    let e : old ≡ take_at flow.takes.items c.args.i =
    here (goal.at.returns-then-take-amount-clause-inside c).After-index-take in
    subst (λ (takes : List Take). IsTakenInside has takes) (sym c.replace.ensures.takes)
    (inside_set has flow.takes.items c.args.i
    (record { taker = c.args.taker; payer = old.payer; amount = old.amount; before = old.before }) c.requires.there
    inside
    (ap (λ (t : Take). has t.payer) e ∙ payer_outside has flow.takes.items c.args.i c.requires.there inside out))

-- what is left of the take
rest : (c : In_ok-add) → Take
rest c =
    let old = c.index-take.result.now in
    record { taker = old.taker; payer = old.payer; amount = old.amount - c.args.amount; before = old.before }

given : (c : In_ok-add) → Take
given c = new_take c.args.flow.now.last.items c.args.taker c.index-take.result.now.payer c.args.amount

new_takes : (c : In_ok-add) → c.add.new.flow.takes.items
    ≡ set c.args.flow.now.takes.items c.args.i (rest c) ++ given c ∷ []
unfolding rest given
new_takes c =
    c.in_ok-add.ensures.takes
    ∙ (λ k.
    (c.replace-2.ensures.takes k)
    ++ new_take (c.replace-2.ensures.last k).items c.args.taker c.index-take.result.now.payer c.args.amount ∷ [])

new_last : (c : In_ok-add) → c.add.new.flow.last.items
    ≡ set c.args.flow.now.last.items c.index-take.result.now.payer
    (length (set c.args.flow.now.takes.items c.args.i (rest c)) + 1)
unfolding rest
new_last c =
    c.in_ok-add.ensures.last
    ∙ (λ k.
    set (c.replace-2.ensures.last k).items c.index-take.result.now.payer
    (length (c.replace-2.ensures.takes k) + 1))

new_left : (c : In_ok-add) → c.add.new.flow.left.items ≡ c.args.flow.now.left.items
new_left c = (λ k. (c.in_ok-add.ensures.left k).items) ∙ (λ k. (c.replace-2.ensures.left k).items)

pub returns-clause-flow : goal.returns-clause-flow
unfolding rest given
returns-clause-flow c =
    let flow = c.args.flow.now in
    let ok = (goal.at.returns-clause-flow c).In_ok-add in
    let at = (goal.at.returns-clause-flow c).After-index-take in
    let old = c.index-take.result.now in
    let e : old ≡ take_at flow.takes.items c.args.i = here at in
    let enough : c.args.amount ≤ old.amount = omega (arith, c.requires.enough, ap (λ (t : Take). t.amount) e) in
    let more : 0 < old.amount - c.args.amount = omega (arith, enough, c.if-take-amount.false) in
    let can_old : CanTake c.args.steps.now old.taker old.payer =
    subst (λ (t : Take). CanTake c.args.steps.now t.taker t.payer) (sym e)
    (c.requires.flow.takes.each c.args.i c.requires.there) in
    record {
      takes =
          subst (λ (s : List ℕ × List Take × List ℕ). AreTakes c.args.steps.now s.0 s.1 s.2)
          (λ k. (sym (new_left ok) k, sym (new_takes ok) k, sym (new_last ok) k))
          (takes_more c.args.steps.now flow.left.items flow.left.items (set flow.takes.items c.args.i (rest ok))
          flow.last.items c.args.taker old.payer c.args.amount
          (takes_set c.args.steps.now flow.left.items flow.takes.items flow.last.items c.args.i (rest ok)
          c.requires.flow.takes c.requires.there (ap (λ (t : Take). t.payer) e) (ap (λ (t : Take). t.before) e)
          can_old more)
          (can at) c.requires.some refl);
      balanced =
          subst (λ (s : List ℕ × List Take). AreBalanced c.args.steps.now s.0 s.1 c.args.taker c.args.amount)
          (λ k. (sym (new_left ok) k, sym (new_takes ok) k))
          (balanced_part c.args.steps.now flow.left.items flow.takes.items c.args.i (rest ok) (given ok)
          c.requires.there c.requires.enough (ap (λ (t : Take). t.taker) e) (ap (λ (t : Take). t.payer) e)
          (ap (λ (t : Take). t.amount - c.args.amount) e) (ap (λ (t : Take). t.payer) e) c.requires.flow.balanced);
    }

pub returns-clause-takes : goal.returns-clause-takes
returns-clause-takes c = λ k low other.
    let ok = (goal.at.returns-clause-takes c).In_ok-add in
    let flow = c.args.flow.now in
    ap (λ (takes : List Take). take_at takes k) (new_takes ok)
    ∙ (get_or_append_left (set flow.takes.items c.args.i (rest ok)) (given ok ∷ []) no_take k
    (omega (arith, low, length-set flow.takes.items c.args.i (rest ok)))
    ∙ get_or-set_other flow.takes.items c.args.i k (rest ok) no_take other)

pub returns-clause-inside : goal.returns-clause-inside
unfolding rest given
returns-clause-inside c = λ has inside out.
    let ok = (goal.at.returns-clause-inside c).In_ok-add in
    let flow = c.args.flow.now in
    let e : c.index-take.result.now ≡ take_at flow.takes.items c.args.i =
    here (goal.at.returns-clause-inside c).After-index-take in
    let pays : has c.index-take.result.now.payer ≡ false =
    ap (λ (t : Take). has t.payer) e ∙ payer_outside has flow.takes.items c.args.i c.requires.there inside out in
    subst (λ (takes : List Take). IsTakenInside has takes) (sym (new_takes ok))
    (inside_more has (set flow.takes.items c.args.i (rest ok)) (given ok)
    (inside_set has flow.takes.items c.args.i (rest ok) c.requires.there inside pays) pays)

pub returns-then-take-amount-clause-below : goal.returns-then-take-amount-clause-below
returns-then-take-amount-clause-below c = λ n below lt.
    let old = c.index-take.result.now in
    subst (λ (takes : List Take). AreBelow n takes) (sym c.replace.ensures.takes)
    (set_each (λ (t : Take). t.taker < n) c.args.flow.now.takes.items c.args.i
    (record { taker = c.args.taker; payer = old.payer; amount = old.amount; before = old.before }) no_take
    c.requires.there below lt)

pub returns-clause-below : goal.returns-clause-below
unfolding rest given
returns-clause-below c = λ n below lt.
    let ok = (goal.at.returns-clause-below c).In_ok-add in
    let takes = c.args.flow.now.takes.items in
    let e : c.index-take.result.now ≡ take_at takes c.args.i =
    here (goal.at.returns-clause-below c).After-index-take in
    subst (λ (takes : List Take). AreBelow n takes) (sym (new_takes ok))
    (push_each (λ (t : Take). t.taker < n) (set takes c.args.i (rest ok)) (given ok) no_take
    (set_each (λ (t : Take). t.taker < n) takes c.args.i (rest ok) no_take c.requires.there below
    (subst (λ (t : Take). t.taker < n) (sym e) (below c.args.i c.requires.there))) lt)
