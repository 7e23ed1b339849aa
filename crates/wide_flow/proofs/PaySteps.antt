-- An excess is carried one step back.
use Rattle.std.proofs.Common.{◌≡◌, ◌≢◌, ℕ, ◌+◌, ◌-◌, ◌<◌, ◌≤◌, Bool, true, false, cond, List, length, get_or, set, sum_by, sym, ap, ◌∙◌, subst, ◌⊎◌, inl, inr, arith, length-set}
use Rattle.std.proofs.lemmas.Bool.{cases_eq, false≢true, false_from_ne_true}
use Rattle.std.proofs.lemmas.List.{get_or-set_same, get_or-set_other}
use Rattle.wide_flow.specs.declared.step.Step.{Step}
use Rattle.wide_flow.specs.declared.takes.Take.{Take}
use Rattle.wide_flow.specs.declared.takes.Flow.{Flow}
use Rattle.wide_flow.specs.declared.reach.Reached.{Reached}
use Rattle.wide_flow.specs.Closed.{IsClosed}
use Rattle.wide_flow.specs.Steps.{IsPast, sizes}
use Rattle.wide_flow.specs.Flows.{AreBalanced, AreTakes, CanTake, IsTakenInside, share, take_at, total}
use Rattle.wide_flow.specs.Searches.{AreOnce, AreReached, IsReachedFrom, reached_at}
use Rattle.wide_flow.proofs.TakeSteps.{payer_outside}
use Rattle.wide_flow.proofs.Totals.{total-set}

-- only the take by which the step was reached has changed
pub from_after : (steps : List Step) (takes takes' : List Take) (reached : List Reached) (at : ℕ)
    → at < length reached → 0 < at → AreOnce reached
    → ((j : ℕ) → 0 < j → j ≤ at → IsReachedFrom steps takes reached j)
    → ((k : ℕ) → k < length takes → k ≢ (reached_at reached at).by → take_at takes' k ≡ take_at takes k)
    → length takes ≤ length takes' → (j : ℕ) → 0 < j → j ≤ (reached_at reached at).from
    → IsReachedFrom steps takes' reached j
from_after steps takes takes' reached at there pos once from same longer j some le =
    let here : IsReachedFrom steps takes reached at = from at pos (omega arith) in
    let less : (reached_at reached at).from < at = here.earlier in
    let is : IsReachedFrom steps takes reached j = from j some (omega (arith, le, less)) in
    let by = (reached_at reached j).by in
    let low : by < length takes = is.there in
    let other : by ≢ (reached_at reached at).by =
    λ e.
    let twice : j ≡ at =
    once j at (omega (arith, le, less, there)) there
    (sym is.own ∙ (ap (λ (n : ℕ). (take_at takes n).taker) e ∙ here.own)) in
    absurd (omega (arith, twice, le, less)) in
    let e : take_at takes' by ≡ take_at takes by = same by low other in
    record {
      earlier = is.earlier;
      there = omega (arith, low, longer);
      own = ap (λ (t : Take). t.taker) e ∙ is.own;
      past =
          subst (λ (t : Take). IsPast steps t.payer (reached_at reached (reached_at reached j).from).step) (sym e)
          is.past;
      narrow = is.narrow;
      enough = subst (λ (t : Take). (reached_at reached j).room ≤ t.amount) (sym e) is.enough;
    }

-- who is outside of a closed set, was reached from outside of it
pub from_outside : (steps : List Step) (takes : List Take) (reached : List Reached) (at : ℕ) (has : ℕ → Bool)
    → IsReachedFrom steps takes reached at
    → CanTake steps (take_at takes (reached_at reached at).by).taker (take_at takes (reached_at reached at).by).payer
    → (reached_at reached (reached_at reached at).from).step < length steps → IsClosed steps has
    → IsTakenInside has takes → has (reached_at reached at).step ≡ false
    → has (reached_at reached (reached_at reached at).from).step ≡ false
from_outside steps takes reached at has is can there closed inside out =
    let by = (reached_at reached at).by in
    let from = (reached_at reached (reached_at reached at).from).step in
    let pays : has (take_at takes by).payer ≡ false =
    payer_outside has takes by is.there inside (ap has is.own ∙ out) in
    false_from_ne_true (has from)
    (λ yes.
    false≢true (sym pays ∙ closed (take_at takes by).payer from can.payer_there there is.past yes))

pub are_once : (steps : List Step) (flow : Flow) (reached : List Reached) (places : List ℕ)
    → AreReached steps flow reached places → AreOnce reached
are_once steps flow reached places are i j lt less same =
    sym (are.once i lt) ∙ (ap (λ (n : ℕ). get_or places n 0) same ∙ are.once j less)

settle_sum : (here none : Bool) (now then sum total left amount : ℕ) → amount ≤ left
    → then + cond here left 0 ≡ now + cond here (left - amount) 0 → now + sum ≡ total + cond here amount 0
    → then + sum ≡ total + cond none 0 0
settle_sum true true now then sum total left amount le e f = omega arith
settle_sum true false now then sum total left amount le e f = omega arith
settle_sum false true now then sum total left amount le e f = omega arith
settle_sum false false now then sum total left amount le e f = omega arith

-- a step that takes an excess has as much less left
pub settled : (steps : List Step) (left : List ℕ) (takes : List Take) (e amount : ℕ)
    → AreBalanced steps left takes e amount → e < length left → amount ≤ get_or left e 0
    → AreBalanced steps (set left e (get_or left e 0 - amount)) takes 0 0
settled steps left takes e amount are there enough = record {
  sums = λ has.
      let less = get_or left e 0 - amount in
      settle_sum (has e) (has 0) (total has left) (total has (set left e less)) (sum_by (share has) takes)
      (total has (sizes steps)) (get_or left e 0) amount enough (total-set has left e less there) (are.sums has);
}

pub takes_left : (steps : List Step) (left left' : List ℕ) (takes : List Take) (last : List ℕ)
    → AreTakes steps left takes last → length left' ≡ length left → AreTakes steps left' takes last
takes_left steps left left' takes last are same = record {
  left_each = same ∙ are.left_each;
  last_each = are.last_each;
  each = are.each;
  some = are.some;
  linked = are.linked;
}

-- what is left after an amount went from a payer to a step
module _ (left : List ℕ) (payer e amount : ℕ) (apart : e ≢ payer) (there : e < length left) (pays : payer < length left)
  where
    abbrev pub mid : List ℕ
    mid = set left payer (get_or left payer 0 - amount)

    abbrev pub end : List ℕ
    end = set mid e (get_or mid e 0 - amount)

    pub mid_there : e < length mid
    mid_there = omega (arith, there, length-set left payer (get_or left payer 0 - amount))

    pub mid_same : get_or mid e 0 ≡ get_or left e 0
    mid_same = get_or-set_other left payer e (get_or left payer 0 - amount) 0 apart

    pub paid_less : 0 < amount → amount ≤ get_or left e 0 → get_or end e 0 < get_or left e 0
    paid_less some enough =
        omega (arith, get_or-set_same mid e (get_or mid e 0 - amount) 0 mid_there, mid_same, some, enough)

    pub paid_same : (s : ℕ) → s ≢ e → s ≢ payer → get_or end s 0 ≡ get_or left s 0
    paid_same s other another =
        get_or-set_other mid e s (get_or mid e 0 - amount) 0 other
        ∙ get_or-set_other left payer s (get_or left payer 0 - amount) 0 another

    pub paid_none_more : (s : ℕ) → get_or end s 0 ≤ get_or left s 0
    paid_none_more s = go (cases_eq s e) (cases_eq s payer)
      where
        go : (s ≡ e) ⊎ (s ≢ e) → (s ≡ payer) ⊎ (s ≢ payer) → get_or end s 0 ≤ get_or left s 0
        go (inl same) which =
            subst (λ (n : ℕ). get_or end n 0 ≤ get_or left n 0) (sym same)
            (omega (arith, get_or-set_same mid e (get_or mid e 0 - amount) 0 mid_there, mid_same))
        go (inr other) (inl same) =
            subst (λ (n : ℕ). get_or end n 0 ≤ get_or left n 0) (sym same)
            (omega (
              arith,
              get_or-set_other mid e payer (get_or mid e 0 - amount) 0 (λ k. apart (sym k)),
              get_or-set_same left payer (get_or left payer 0 - amount) 0 pays,
            ))
        go (inr other) (inr another) = omega (arith, paid_same s other another)
