-- The amount was drawn, carried back, and is what step `e` has less left.
use Rattle.std.proofs.Common.{◌≡◌, ◌≢◌, ◌-◌, ◌<◌, ◌≤◌, ℕ, false, List, length, get_or, set, sym, ap, ◌∙◌, subst, arith, length-set}
use Rattle.std.proofs.lemmas.Bool.{false≢true, false_from_ne_true}
use Rattle.std.proofs.lemmas.List.{get_or_read}
use Rattle.std.specs.Global.{Global}
use Rattle.std.specs.Prelude.{Vec}
use Rattle.wide_flow.specs.declared.takes.Take.{Take}
use Rattle.wide_flow.specs.declared.takes.Flow.{Flow}
use Rattle.wide_flow.specs.Steps.{is_negative}
use Rattle.wide_flow.specs.Flows.{AreBalanced, AreBelow, AreTakes, CanTake, IsFlow, IsTakenInside}
use Rattle.wide_flow.specs.Searches.{AreReached, reached_at}
use Rattle.wide_flow.proofs.PaySteps.{end, mid, mid_same, mid_there, paid_less, paid_none_more, paid_same, settled, takes_left}
use Rattle.wide_flow.proofs.pay.pay.Goals as goal
use Rattle.wide_flow.proofs.pay.pay.Goals.{After-lower}

-- a positive step is no payer
apart : (c : After-lower) → c.args.e ≢ c.args.payer
apart c same =
    let are : AreReached c.args.steps.now c.args.flow.now c.args.reached.now c.requires.reached.0 =
    c.requires.reached.1 in
    let first : is_negative c.args.steps.now c.args.e ≡ false =
    ap (is_negative c.args.steps.now) (sym c.requires.first) ∙ are.positive 0 are.some in
    let can : CanTake c.args.steps.now (reached_at c.args.reached.now c.args.at).step c.args.payer =
    c.requires.free.can in
    false≢true (sym first ∙ (ap (is_negative c.args.steps.now) same ∙ can.negative))

there : (c : After-lower) → c.args.e < length c.args.flow.now.left.items
there c =
    let are : AreReached c.args.steps.now c.args.flow.now c.args.reached.now c.requires.reached.0 =
    c.requires.reached.1 in
    subst (λ (n : ℕ). n < length c.args.flow.now.left.items) c.requires.first
    (let low : (reached_at c.args.reached.now 0).step < length c.args.steps.now = are.there 0 are.some in
    omega (arith, low, c.requires.flow.takes.left_each))

pays : (c : After-lower) → c.args.payer < length c.args.flow.now.left.items
pays c =
    let can : CanTake c.args.steps.now (reached_at c.args.reached.now c.args.at).step c.args.payer =
    c.requires.free.can in
    let low : c.args.payer < length c.args.steps.now = can.payer_there in
    omega (arith, low, c.requires.flow.takes.left_each)

some : (c : After-lower) → 0 < c.min-amount.result
some c =
    let are : AreReached c.args.steps.now c.args.flow.now c.args.reached.now c.requires.reached.0 =
    c.requires.reached.1 in
    let left = c.args.flow.now.left.items in
    let room : 0 < (reached_at c.args.reached.now c.args.at).room = are.room c.args.at c.requires.free.there in
    let has : 0 < get_or left c.args.payer 0 = c.requires.free.some in
    omega (arith, c.min-amount.ensures, get_or_read left c.args.payer _ (pays c) c.index.ensures 0, room, has)

is_mid : (c : After-lower) → c.carry_back.new.flow.left.items
    ≡ mid c.args.flow.now.left.items c.args.payer c.args.e c.min-amount.result (apart c) (there c) (pays c)
is_mid c = c.in_ok-carry_back.ensures.left ∙ c.in_ok-draw.ensures.left

is_end : (c : After-lower) → c.lower.new.flow.left.items
    ≡ end c.args.flow.now.left.items c.args.payer c.args.e c.min-amount.result (apart c) (there c) (pays c)
is_end c =
    c.lower.ensures.left
    ∙ (λ k. set (is_mid c k) c.args.e (get_or (is_mid c k) c.args.e 0 - c.min-amount.result))

enough : (c : After-lower) → c.min-amount.result ≤ get_or c.args.flow.now.left.items c.args.e 0
enough c =
    let are : AreReached c.args.steps.now c.args.flow.now c.args.reached.now c.requires.reached.0 =
    c.requires.reached.1 in
    let le : c.min-amount.result ≤ (reached_at c.args.reached.now 0).room = c.in_ok-carry_back.ensures.enough in
    let lacks : (reached_at c.args.reached.now 0).room ≤ get_or c.args.flow.now.left.items c.args.e 0 =
    subst (λ (n : ℕ). (reached_at c.args.reached.now 0).room ≤ get_or c.args.flow.now.left.items n 0) c.requires.first
    are.lacking in
    omega (arith, le, lacks)

pub returns-clause-flow : goal.returns-clause-flow
returns-clause-flow c =
    let at = (goal.at.returns-clause-flow c).After-lower in
    let steps = c.args.steps.now in
    let left = c.args.flow.now.left.items in
    let carried = c.carry_back.new.flow in
    let amount = c.min-amount.result in
    let are : AreReached steps c.args.flow.now c.args.reached.now c.requires.reached.0 =
    c.requires.reached.1 in
    let flow : IsFlow steps carried (reached_at c.args.reached.now 0).step amount = c.in_ok-carry_back.ensures.flow in
    let here : c.args.e < length carried.left.items =
    subst (λ (xs : List ℕ). c.args.e < length xs) (sym (is_mid at))
    (mid_there left c.args.payer c.args.e amount (apart at) (there at) (pays at)) in
    let has : amount ≤ get_or carried.left.items c.args.e 0 =
    subst (λ (xs : List ℕ). amount ≤ get_or xs c.args.e 0) (sym (is_mid at))
    (omega (arith, mid_same left c.args.payer c.args.e amount (apart at) (there at) (pays at), enough at)) in
    record {
      takes =
          subst (λ (s : List ℕ × Flow). AreTakes steps s.0 s.1.takes.items s.1.last.items)
          (λ k. (
            sym c.lower.ensures.left k,
            record carried { takes = sym c.lower.ensures.takes k; last = sym c.lower.ensures.last k },
          ))
          (takes_left steps carried.left.items _ carried.takes.items carried.last.items flow.takes
          (length-set carried.left.items c.args.e (get_or carried.left.items c.args.e 0 - amount)));
      balanced =
          subst (λ (s : List ℕ × Flow). AreBalanced steps s.0 s.1.takes.items 0 0)
          (λ k. (sym c.lower.ensures.left k, record carried { takes = sym c.lower.ensures.takes k }))
          (settled steps carried.left.items carried.takes.items c.args.e amount
          (subst (λ (n : ℕ). AreBalanced steps carried.left.items carried.takes.items n amount) c.requires.first
          flow.balanced)
          here has);
    }

pub returns-clause-less : goal.returns-clause-less
returns-clause-less c =
    let at = (goal.at.returns-clause-less c).After-lower in
    let left = c.args.flow.now.left.items in
    subst (λ (xs : List ℕ). get_or xs c.args.e 0 < get_or left c.args.e 0) (sym (is_end at))
    (paid_less left c.args.payer c.args.e c.min-amount.result (apart at) (there at) (pays at) (some at) (enough at))

pub returns-clause-none_more : goal.returns-clause-none_more
returns-clause-none_more c =
    let at = (goal.at.returns-clause-none_more c).After-lower in
    let left = c.args.flow.now.left.items in
    subst (λ (xs : List ℕ). (s : ℕ) → get_or xs s 0 ≤ get_or left s 0) (sym (is_end at))
    (paid_none_more left c.args.payer c.args.e c.min-amount.result (apart at) (there at) (pays at))

pub returns-clause-same : goal.returns-clause-same
returns-clause-same c = λ s other positive.
    let at = (goal.at.returns-clause-same c).After-lower in
    let left = c.args.flow.now.left.items in
    let can : CanTake c.args.steps.now (reached_at c.args.reached.now c.args.at).step c.args.payer =
    c.requires.free.can in
    ap (λ (xs : List ℕ). get_or xs s 0) (is_end at)
    ∙ paid_same left c.args.payer c.args.e c.min-amount.result (apart at) (there at) (pays at) s other
    (λ same. false≢true (sym positive ∙ (ap (is_negative c.args.steps.now) same ∙ can.negative)))

pub returns-clause-below : goal.returns-clause-below
returns-clause-below c = λ n below each.
    subst (λ (v : Vec Take Global). AreBelow n v.items) (sym c.lower.ensures.takes)
    (c.in_ok-carry_back.ensures.below n
    (c.in_ok-draw.ensures.below n below (each c.args.at c.requires.free.there)) each)

pub returns-clause-inside : goal.returns-clause-inside
returns-clause-inside c = λ has closed inside out.
    let can : CanTake c.args.steps.now (reached_at c.args.reached.now c.args.at).step c.args.payer =
    c.requires.free.can in
    subst (λ (v : Vec Take Global). IsTakenInside has v.items) (sym c.lower.ensures.takes)
    (c.in_ok-carry_back.ensures.inside has closed (c.in_ok-draw.ensures.inside has inside out)
    (false_from_ne_true (has (reached_at c.args.reached.now c.args.at).step)
    (λ yes.
    false≢true (sym out ∙ closed c.args.payer (reached_at c.args.reached.now c.args.at).step can.payer_there
    can.taker_there can.past yes))))
