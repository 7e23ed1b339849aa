-- The taker is added.
use Rattle.std.proofs.Common.{◌≡◌, ◌<◌, ◌≤◌, ℕ, List, length, set, sym, ap, ◌∙◌, subst, refl, arith}
use Rattle.std.proofs.lemmas.List.{get_or_push, get_or_read, length_push}
use Rattle.wide_flow.specs.declared.takes.Take.{Take}
use Rattle.wide_flow.specs.declared.reach.Reached.{Reached}
use Rattle.wide_flow.specs.Flows.{CanTake, no_take, take_at}
use Rattle.wide_flow.specs.Searches.{AreReached, GoesOn, HasReached, no_reached, reached_at}
use Rattle.wide_flow.specs.Steps.{is_negative}
use Rattle.wide_flow.proofs.ReachSteps.{goes_on_none, goes_on_push, reached_more}
use Rattle.wide_flow.proofs.reach.reach.Goals as goal

pub returns-clause-reached : goal.returns-clause-reached
returns-clause-reached c =
    let steps = c.args.steps.now in
    let flow = c.args.flow.now in
    let reached = c.args.reached.now.items in
    let by = c.args.by in
    let take = c.index-take.result.now in
    let e : take ≡ take_at flow.takes.items by =
    get_or_read flow.takes.items by _ c.requires.by c.index-take.ensures no_take in
    let f : c.index.result.now ≡ reached_at reached c.args.from =
    get_or_read reached c.args.from _ c.requires.from c.index.ensures no_reached in
    let some : 0 < (take_at flow.takes.items by).amount = c.requires.flow.takes.some by c.requires.by in
    let room : 0 < (reached_at reached c.args.from).room = c.requires.reached.room c.args.from c.requires.from in
    let can : CanTake steps (take_at flow.takes.items by).taker (take_at flow.takes.items by).payer =
    c.requires.flow.takes.each by c.requires.by in
    let narrow : c.min-room.result ≤ (reached_at reached c.args.from).room =
    omega (arith, c.min-room.ensures, ap (λ (r : Reached). r.room) f) in
    let enough : c.min-room.result ≤ (take_at flow.takes.items by).amount =
    omega (arith, c.min-room.ensures, ap (λ (t : Take). t.amount) e) in
    let pos : 0 < c.min-room.result =
    omega (arith, c.min-room.ensures, ap (λ (r : Reached). r.room) f, ap (λ (t : Take). t.amount) e, some, room) in
    let r : Reached =
    record { step = take.taker; from = c.args.from; by = by; room = c.min-room.result } in
    subst (λ (s : List Reached × List ℕ). AreReached steps flow s.0 s.1)
    (λ k. (
      sym c.in_ok-push.ensures.items k,
      sym (c.set_place.ensures
          ∙ ap (set c.args.places.now take.taker) (c.len-place.ensures ∙ c.args.reached.now.ok.0)) k,
    ))
    (reached_more steps flow reached c.args.places.now c.requires.reached r
    (subst (λ (t : Take). HasReached reached t.taker → ⊥) (sym e) c.requires.another)
    (subst (λ (t : Take). t.taker < length steps) (sym e) can.taker_there)
    (ap (λ (t : Take). is_negative steps t.taker) e ∙ can.positive) pos c.requires.from
    c.requires.by (ap (λ (t : Take). t.taker) (sym e)) c.requires.past narrow enough)

pub returns-clause-on : goal.returns-clause-on
returns-clause-on c =
    subst (λ (xs : List Reached). GoesOn c.args.reached.now.items xs) (sym c.in_ok-push.ensures.items)
    (goes_on_push c.args.reached.now.items c.args.reached.now.items _ (goes_on_none c.args.reached.now.items))

pub returns-clause-there : goal.returns-clause-there
returns-clause-there c =
    let flow = c.args.flow.now in
    let reached = c.args.reached.now.items in
    let e : c.index-take.result.now ≡ take_at flow.takes.items c.args.by =
    get_or_read flow.takes.items c.args.by _ c.requires.by c.index-take.ensures no_take in
    let r : Reached =
    record { step = c.index-take.result.now.taker; from = c.args.from; by = c.args.by; room = c.min-room.result } in
    subst (λ (xs : List Reached). HasReached xs (take_at flow.takes.items c.args.by).taker)
    (sym c.in_ok-push.ensures.items) (
      length reached,
      omega (arith, length_push reached r),
      ap (λ (x : Reached). x.step) (get_or_push reached r no_reached (length reached) refl)
          ∙ ap (λ (t : Take). t.taker) e,
    )
