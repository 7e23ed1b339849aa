-- One step more is reached.
use Rattle.std.proofs.Common.{◌≡◌, ◌≢◌, ℕ, suc, ◌+◌, ◌<◌, ◌≤◌, false, List, [], ◌∷◌, ◌++◌, length, get_or, set, refl, sym, ap, ◌∙◌, subst, ◌⊎◌, inl, inr, arith, length-set}
use Rattle.std.proofs.lemmas.Bool.{cases_eq, cases_lt}
use Rattle.std.proofs.lemmas.List.{get_or_push, get_or_append_left, get_or-set_same, get_or-set_other, length_push}
use Rattle.wide_flow.specs.declared.step.Step.{Step}
use Rattle.wide_flow.specs.declared.takes.Take.{Take}
use Rattle.wide_flow.specs.declared.takes.Flow.{Flow}
use Rattle.wide_flow.specs.declared.reach.Reached.{Reached}
use Rattle.wide_flow.specs.Steps.{IsPast, is_negative}
use Rattle.wide_flow.specs.Flows.{AreLinked, take_at}
use Rattle.wide_flow.specs.Searches.{AreReached, GoesOn, HasReached, IsReachedFrom, no_reached, reached_at}
use Rattle.wide_flow.proofs.Lists.{push_each}

pub goes_on_none : (reached : List Reached) → GoesOn reached reached
goes_on_none reached = record { longer = omega arith; same = λ j lt. refl }

pub goes_on_push : (old reached : List Reached) (r : Reached) → GoesOn old reached → GoesOn old (reached ++ r ∷ [])
goes_on_push old reached r on = record {
  longer = let l : length old ≤ length reached = on.longer in omega (arith, l, length_push reached r);
  same = λ j lt.
      let l : length old ≤ length reached = on.longer in
      get_or_append_left reached (r ∷ []) no_reached j (omega (arith, l, lt)) ∙ on.same j lt;
}

pub goes_on_both : (a b c : List Reached) → GoesOn a b → GoesOn b c → GoesOn a c
goes_on_both a b c first second = record {
  longer = let l : length a ≤ length b = first.longer in omega (arith, l, second.longer);
  same = λ j lt.
      let l : length a ≤ length b = first.longer in second.same j (omega (arith, l, lt)) ∙ first.same j lt;
}

pub still_reached : (old new : List Reached) (s : ℕ) → GoesOn old new → HasReached old s → HasReached new s
still_reached old new s on (i, lt, is) =
    let l : length old ≤ length new = on.longer in
    (i, omega (arith, lt, l), ap (λ (r : Reached). r.step) (on.same i lt) ∙ is)

module _ (steps : List Step) (flow : Flow) (reached : List Reached) (places : List ℕ)
    (are : AreReached steps flow reached places) (r : Reached) (new : HasReached reached r.step → ⊥)
    (there : r.step < length steps) (positive : is_negative steps r.step ≡ false) (some : 0 < r.room)
    (from : r.from < length reached) (by : r.by < length flow.takes.items)
    (own : (take_at flow.takes.items r.by).taker ≡ r.step)
    (past : IsPast steps (take_at flow.takes.items r.by).payer (reached_at reached r.from).step)
    (narrow : r.room ≤ (reached_at reached r.from).room)
    (enough : r.room ≤ (take_at flow.takes.items r.by).amount) where
  more : List Reached
  more = reached ++ r ∷ []

  at_old : (i : ℕ) → i < length reached → reached_at more i ≡ reached_at reached i
  unfolding more
  at_old i low = get_or_append_left reached (r ∷ []) no_reached i low

  at_new : (i : ℕ) → length reached ≡ i → reached_at more i ≡ r
  unfolding more
  at_new i same = get_or_push reached r no_reached i same

  more_length : length more ≡ length reached + 1
  unfolding more
  more_length = length_push reached r

  newer : List ℕ
  newer = set places r.step (length reached)

  once : (j : ℕ) → j < length more → get_or newer (reached_at more j).step 0 ≡ j
  unfolding newer
  once j lt = go (cases_lt j (length reached))
    where
      go : (j < length reached) ⊎ (length reached ≤ j) → get_or newer (reached_at more j).step 0 ≡ j
      go (inl low) =
          ap (λ (x : Reached). get_or newer x.step 0) (at_old j low)
          ∙ (get_or-set_other places r.step (reached_at reached j).step (length reached) 0 (λ same. new (j, low, same))
          ∙ are.once j low)
      go (inr high) =
          let at : length reached ≡ j = omega (arith, high, lt, more_length) in
          ap (λ (x : Reached). get_or newer x.step 0) (at_new j at)
          ∙ (get_or-set_same places r.step (length reached) 0 (omega (arith, there, are.places_each)) ∙ at)

  later : (j : ℕ) → 0 < j → j < length more → IsReachedFrom steps flow.takes.items more j
  later j pos lt = go (cases_lt j (length reached))
    where
      go : (j < length reached) ⊎ (length reached ≤ j) → IsReachedFrom steps flow.takes.items more j
      go (inl low) =
          let is : IsReachedFrom steps flow.takes.items reached j = are.later j pos low in
          let less : (reached_at reached j).from < j = is.earlier in
          let same : reached_at more j ≡ reached_at reached j = at_old j low in
          let prior : reached_at more (reached_at more j).from ≡ reached_at reached (reached_at reached j).from =
          ap (λ (x : Reached). reached_at more x.from) same
          ∙ at_old (reached_at reached j).from (omega (arith, less, low)) in
          record {
            earlier = subst (λ (x : Reached). x.from < j) (sym same) less;
            there = subst (λ (x : Reached). x.by < length flow.takes.items) (sym same) is.there;
            own = subst (λ (x : Reached). (take_at flow.takes.items x.by).taker ≡ x.step) (sym same) is.own;
            past =
                subst (λ (s : Reached × Reached). IsPast steps (take_at flow.takes.items s.0.by).payer s.1.step)
                (λ k. (sym same k, sym prior k)) is.past;
            narrow = subst (λ (s : Reached × Reached). s.0.room ≤ s.1.room) (λ k. (sym same k, sym prior k)) is.narrow;
            enough =
                subst (λ (x : Reached). x.room ≤ (take_at flow.takes.items x.by).amount) (sym same) is.enough;
          }
      go (inr high) =
          let at : length reached ≡ j = omega (arith, high, lt, more_length) in
          let same : reached_at more j ≡ r = at_new j at in
          let prior : reached_at more (reached_at more j).from ≡ reached_at reached r.from =
          ap (λ (x : Reached). reached_at more x.from) same ∙ at_old r.from from in
          record {
            earlier = subst (λ (x : Reached). x.from < j) (sym same) (omega (arith, from, at));
            there = subst (λ (x : Reached). x.by < length flow.takes.items) (sym same) by;
            own = subst (λ (x : Reached). (take_at flow.takes.items x.by).taker ≡ x.step) (sym same) own;
            past =
                subst (λ (s : Reached × Reached). IsPast steps (take_at flow.takes.items s.0.by).payer s.1.step)
                (λ k. (sym same k, sym prior k)) past;
            narrow = subst (λ (s : Reached × Reached). s.0.room ≤ s.1.room) (λ k. (sym same k, sym prior k)) narrow;
            enough =
                subst (λ (x : Reached). x.room ≤ (take_at flow.takes.items x.by).amount) (sym same) enough;
          }

  pub reached_more : AreReached steps flow (reached ++ r ∷ []) (set places r.step (length reached))
  unfolding more newer
  reached_more =
      let low : 0 < length reached = are.some in
      let head : reached_at more 0 ≡ reached_at reached 0 = at_old 0 low in
      record {
        some = omega (arith, more_length);
        lacking = subst (λ (x : Reached). x.room ≤ get_or flow.left.items x.step 0) (sym head) are.lacking;
        there = push_each (λ (x : Reached). x.step < length steps) reached r no_reached are.there there;
        positive =
            push_each (λ (x : Reached). is_negative steps x.step ≡ false) reached r no_reached are.positive positive;
        room = push_each (λ (x : Reached). 0 < x.room) reached r no_reached are.room some;
        once = once;
        later = later;
        places_each = length-set places r.step (length reached) ∙ are.places_each;
      }

-- a payer's takes from the one before this one on
module _ (takes : List Take) (last : List ℕ) (linked : AreLinked takes last) (f at by : ℕ) (here : at ≡ suc by)
    (within : at ≤ length takes) (owner : (i : ℕ) → at ≡ suc i → (take_at takes i).payer ≡ f) where
  pub scan_within : (take_at takes by).before ≤ length takes
  scan_within = let low : by < length takes = omega (arith, here, within) in omega (arith, linked.before_in by low, low)

  pub scan_own : (i : ℕ) → (take_at takes by).before ≡ suc i → (take_at takes i).payer ≡ f
  scan_own i is =
      let low : by < length takes = omega (arith, here, within) in
      linked.before_own by i low is ∙ owner by here

  pub scan_all : (R : ℕ → Type 0)
      → ((i : ℕ) → at ≤ i → i < length takes → (take_at takes i).payer ≡ f → R (take_at takes i).taker)
      → R (take_at takes by).taker → (i : ℕ) → (take_at takes by).before ≤ i → i < length takes
      → (take_at takes i).payer ≡ f → R (take_at takes i).taker
  scan_all R later now i le lt pays = go (cases_lt i at)
    where
      go : (i < at) ⊎ (at ≤ i) → R (take_at takes i).taker
      go (inr high) = later i high lt pays
      go (inl low) = which (cases_eq i by)
        where
          which : (i ≡ by) ⊎ (i ≢ by) → R (take_at takes i).taker
          which (inl same) = subst (λ (n : ℕ). R (take_at takes n).taker) (sym same) now
          which (inr other) =
              let there : by < length takes = omega (arith, here, within) in
              absurd (linked.before_all by i there le (omega (arith, low, here, other)) (pays ∙ sym (owner by here)))
