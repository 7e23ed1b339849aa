-- A take is added, or given to another step.
use Rattle.std.proofs.Common.{◌≡◌, ◌≢◌, ℕ, suc, ◌+◌, ◌-◌, ◌<◌, ◌≤◌, Bool, true, false, cond, IsTrue, List, [], ◌∷◌, ◌++◌, length, get_or, set, refl, sym, ap, ◌∙◌, ◌⊎◌, inl, inr, sum_by, arith, length-set}
use Rattle.std.proofs.lemmas.Bool.{cases_eq, cases_lt, false≢true}
use Rattle.std.proofs.lemmas.List.{get_or_push, get_or_append_left, get_or-set_same, get_or-set_other, length_push}
use Rattle.std.proofs.lemmas.List.Sums.{sum_by-set, sum_by_push}
use Rattle.wide_flow.specs.declared.step.Step.{Step}
use Rattle.wide_flow.specs.declared.takes.Take.{Take}
use Rattle.wide_flow.specs.Steps.{sizes}
use Rattle.wide_flow.specs.Flows.{AreBalanced, AreLinked, AreTakes, CanTake, IsTakenInside, no_take, share, take_at, total}
use Rattle.wide_flow.proofs.Lists.{push_each, set_each, set_same}
use Rattle.wide_flow.proofs.Totals.{total-set}

-- the take that is added last
abbrev pub new_take : List ℕ → ℕ → ℕ → ℕ → Take
new_take last taker payer amount =
    record { taker = taker; payer = payer; amount = amount; before = get_or last payer 0 }

-- it is linked to the one before it
module _ (takes : List Take) (last : List ℕ) (linked : AreLinked takes last) (payer : ℕ) (take : Take)
    (own : take.payer ≡ payer) (before : take.before ≡ get_or last payer 0) (there : payer < length last) where
  more : List Take
  more = takes ++ take ∷ []

  newer : List ℕ
  newer = set last payer (length takes + 1)

  at_old : (i : ℕ) → i < length takes → take_at more i ≡ take_at takes i
  unfolding more
  at_old i low = get_or_append_left takes (take ∷ []) no_take i low

  at_new : (i : ℕ) → length takes ≡ i → take_at more i ≡ take
  unfolding more
  at_new i same = get_or_push takes take no_take i same

  more_length : length more ≡ length takes + 1
  unfolding more
  more_length = length_push takes take

  newer_same : get_or newer payer 0 ≡ length takes + 1
  unfolding newer
  newer_same = get_or-set_same last payer (length takes + 1) 0 there

  newer_other : (f : ℕ) → f ≢ payer → get_or newer f 0 ≡ get_or last f 0
  unfolding newer
  newer_other f other = get_or-set_other last payer f (length takes + 1) 0 other

  last_in : (f : ℕ) → get_or newer f 0 ≤ length more
  last_in f = go (cases_eq f payer)
    where
      go : (f ≡ payer) ⊎ (f ≢ payer) → get_or newer f 0 ≤ length more
      go (inl same) =
          let e : get_or newer f 0 ≡ length takes + 1 = ap (λ (n : ℕ). get_or newer n 0) same ∙ newer_same in
          omega (arith, e, more_length)
      go (inr other) = omega (arith, newer_other f other, linked.last_in f, more_length)

  last_own : (f i : ℕ) → get_or newer f 0 ≡ suc i → (take_at more i).payer ≡ f
  last_own f i is = go (cases_eq f payer)
    where
      go : (f ≡ payer) ⊎ (f ≢ payer) → (take_at more i).payer ≡ f
      go (inl same) =
          let e : get_or newer f 0 ≡ length takes + 1 = ap (λ (n : ℕ). get_or newer n 0) same ∙ newer_same in
          let there : length takes ≡ i = omega (arith, e, is) in
          ap (λ (t : Take). t.payer) (at_new i there) ∙ (own ∙ sym same)
      go (inr other) =
          let e : get_or last f 0 ≡ suc i = sym (newer_other f other) ∙ is in
          let low : i < length takes = omega (arith, e, linked.last_in f) in
          ap (λ (t : Take). t.payer) (at_old i low) ∙ linked.last_own f i e

  last_all : (f i : ℕ) → get_or newer f 0 ≤ i → i < length more → (take_at more i).payer ≢ f
  last_all f i le lt = go (cases_eq f payer)
    where
      go : (f ≡ payer) ⊎ (f ≢ payer) → (take_at more i).payer ≢ f
      go (inl same) =
          let e : get_or newer f 0 ≡ length takes + 1 = ap (λ (n : ℕ). get_or newer n 0) same ∙ newer_same in
          absurd (omega (arith, e, le, lt, more_length))
      go (inr other) =
          let old : get_or last f 0 ≤ i = omega (arith, newer_other f other, le) in
          which old (cases_lt i (length takes))
        where
          which : get_or last f 0 ≤ i → (i < length takes) ⊎ (length takes ≤ i) → (take_at more i).payer ≢ f
          which old (inl low) is = linked.last_all f i old low (sym (ap (λ (t : Take). t.payer) (at_old i low)) ∙ is)
          which old (inr high) is =
              let there : length takes ≡ i = omega (arith, high, lt, more_length) in
              other (sym is ∙ (ap (λ (t : Take). t.payer) (at_new i there) ∙ own))

  before_in : (i : ℕ) → i < length more → (take_at more i).before ≤ i
  before_in i lt = go (cases_lt i (length takes))
    where
      go : (i < length takes) ⊎ (length takes ≤ i) → (take_at more i).before ≤ i
      go (inl low) = omega (arith, ap (λ (t : Take). t.before) (at_old i low), linked.before_in i low)
      go (inr high) =
          let there : length takes ≡ i = omega (arith, high, lt, more_length) in
          omega (arith, ap (λ (t : Take). t.before) (at_new i there), before, linked.last_in payer, there)

  before_own : (i j : ℕ) → i < length more → (take_at more i).before ≡ suc j
      → (take_at more j).payer ≡ (take_at more i).payer
  before_own i j lt is = go (cases_lt i (length takes))
    where
      go : (i < length takes) ⊎ (length takes ≤ i) → (take_at more j).payer ≡ (take_at more i).payer
      go (inl low) =
          let old : (take_at takes i).before ≡ suc j = sym (ap (λ (t : Take). t.before) (at_old i low)) ∙ is in
          let less : j < length takes = omega (arith, old, linked.before_in i low, low) in
          ap (λ (t : Take). t.payer) (at_old j less)
          ∙ (linked.before_own i j low old ∙ sym (ap (λ (t : Take). t.payer) (at_old i low)))
      go (inr high) =
          let there : length takes ≡ i = omega (arith, high, lt, more_length) in
          let e : get_or last payer 0 ≡ suc j =
          sym before ∙ (sym (ap (λ (t : Take). t.before) (at_new i there)) ∙ is) in
          let less : j < length takes = omega (arith, e, linked.last_in payer) in
          ap (λ (t : Take). t.payer) (at_old j less)
          ∙ (linked.last_own payer j e ∙ (sym own ∙ sym (ap (λ (t : Take). t.payer) (at_new i there))))

  before_all : (i j : ℕ) → i < length more → (take_at more i).before ≤ j → j < i
      → (take_at more j).payer ≢ (take_at more i).payer
  before_all i j lt le less is = go (cases_lt i (length takes))
    where
      go : (i < length takes) ⊎ (length takes ≤ i) → ⊥
      go (inl low) =
          let old : (take_at takes i).before ≤ j = omega (arith, ap (λ (t : Take). t.before) (at_old i low), le) in
          let low_j : j < length takes = omega (arith, less, low) in
          linked.before_all i j low old less
          (sym (ap (λ (t : Take). t.payer) (at_old j low_j)) ∙ (is ∙ ap (λ (t : Take). t.payer) (at_old i low)))
      go (inr high) =
          let there : length takes ≡ i = omega (arith, high, lt, more_length) in
          let low_j : j < length takes = omega (arith, less, there) in
          let old : get_or last payer 0 ≤ j =
          omega (arith, before, ap (λ (t : Take). t.before) (at_new i there), le) in
          linked.last_all payer j old low_j
          (sym (ap (λ (t : Take). t.payer) (at_old j low_j))
          ∙ (is ∙ (ap (λ (t : Take). t.payer) (at_new i there) ∙ own)))

  pub linked_more : AreLinked (takes ++ take ∷ []) (set last payer (length takes + 1))
  unfolding more newer
  linked_more = record {
    last_in = last_in;
    last_own = last_own;
    last_all = last_all;
    before_in = before_in;
    before_own = before_own;
    before_all = before_all;
  }

-- another taker or amount changes no link
pub linked_same : (takes : List Take) (last : List ℕ) (i : ℕ) (take : Take) → i < length takes
    → take.payer ≡ (take_at takes i).payer → take.before ≡ (take_at takes i).before → AreLinked takes last
    → AreLinked (set takes i take) last
linked_same takes last i take lt payer before linked =
    let n = length-set takes i take in
    let pays = set_same (λ (t : Take). t.payer) takes i take no_take lt payer in
    let links = set_same (λ (t : Take). t.before) takes i take no_take lt before in
    record {
      last_in = λ f. omega (arith, n, linked.last_in f);
      last_own = λ f k is. pays k ∙ linked.last_own f k is;
      last_all = λ f k le low is. linked.last_all f k le (omega (arith, low, n)) (sym (pays k) ∙ is);
      before_in = λ k low. omega (arith, links k, linked.before_in k (omega (arith, low, n)));
      before_own = λ k j low is.
          pays j ∙ (linked.before_own k j (omega (arith, low, n)) (sym (links k) ∙ is) ∙ sym (pays k));
      before_all = λ k j low le less is.
          linked.before_all k j (omega (arith, low, n)) (omega (arith, links k, le)) less
          (sym (pays j) ∙ (is ∙ pays k));
    }

-- what holds of all takes, after one more
pub takes_more : (steps : List Step) (left left' : List ℕ) (takes : List Take) (last : List ℕ) (taker payer amount : ℕ)
    → AreTakes steps left takes last → CanTake steps taker payer → 0 < amount → length left' ≡ length left
    → AreTakes steps left' (takes ++ new_take last taker payer amount ∷ []) (set last payer (length takes + 1))
takes_more steps left left' takes last taker payer amount are can some same = record {
  left_each = same ∙ are.left_each;
  last_each = length-set last payer (length takes + 1) ∙ are.last_each;
  each =
      push_each (λ (t : Take). CanTake steps t.taker t.payer) takes (new_take last taker payer amount) no_take are.each
      can;
  some = push_each (λ (t : Take). 0 < t.amount) takes (new_take last taker payer amount) no_take are.some some;
  linked =
      linked_more takes last are.linked payer (new_take last taker payer amount) refl refl
      (let there : payer < length steps = can.payer_there in omega (arith, there, are.last_each));
}

-- and after another taker or amount of one
pub takes_set : (steps : List Step) (left : List ℕ) (takes : List Take) (last : List ℕ) (i : ℕ) (take : Take)
    → AreTakes steps left takes last → i < length takes → take.payer ≡ (take_at takes i).payer
    → take.before ≡ (take_at takes i).before → CanTake steps take.taker take.payer → 0 < take.amount
    → AreTakes steps left (set takes i take) last
takes_set steps left takes last i take are lt payer before can some = record {
  left_each = are.left_each;
  last_each = are.last_each;
  each = set_each (λ (t : Take). CanTake steps t.taker t.payer) takes i take no_take lt are.each can;
  some = set_each (λ (t : Take). 0 < t.amount) takes i take no_take lt are.some some;
  linked = linked_same takes last i take lt payer before are.linked;
}

draw_sum : (none taker payer : Bool) (now then sum total left amount : ℕ) → amount ≤ left
    → then + cond payer left 0 ≡ now + cond payer (left - amount) 0 → now + sum ≡ total + cond none 0 0
    → then + (sum + (cond taker amount 0 + cond payer amount 0)) ≡ total + cond taker amount 0
draw_sum true true true now then sum total left amount le e f = omega arith
draw_sum true true false now then sum total left amount le e f = omega arith
draw_sum true false true now then sum total left amount le e f = omega arith
draw_sum true false false now then sum total left amount le e f = omega arith
draw_sum false true true now then sum total left amount le e f = omega arith
draw_sum false true false now then sum total left amount le e f = omega arith
draw_sum false false true now then sum total left amount le e f = omega arith
draw_sum false false false now then sum total left amount le e f = omega arith

-- a payer that has the amount left pays it
pub balanced_draw : (steps : List Step) (left : List ℕ) (takes : List Take) (take : Take)
    → AreBalanced steps left takes 0 0 → take.payer < length left → take.amount ≤ get_or left take.payer 0
    → AreBalanced steps (set left take.payer (get_or left take.payer 0 - take.amount)) (takes ++ take ∷ []) take.taker
    take.amount
balanced_draw steps left takes take are there enough = record {
  sums = λ has.
      let less = get_or left take.payer 0 - take.amount in
      ap (λ (n : ℕ). total has (set left take.payer less) + n) (sum_by_push (share has) takes take)
      ∙ draw_sum (has 0) (has take.taker) (has take.payer) (total has left) (total has (set left take.payer less))
      (sum_by (share has) takes) (total has (sizes steps)) (get_or left take.payer 0) take.amount enough
      (total-set has left take.payer less there) (are.sums has);
}

-- another step takes all of a take
pub balanced_all : (steps : List Step) (left : List ℕ) (takes : List Take) (i : ℕ) (take : Take) → i < length takes
    → take.payer ≡ (take_at takes i).payer → take.amount ≡ (take_at takes i).amount
    → AreBalanced steps left takes (take_at takes i).taker (take_at takes i).amount
    → AreBalanced steps left (set takes i take) take.taker (take_at takes i).amount
balanced_all steps left takes i take lt payer amount are = record {
  sums = λ has.
      let e = sum_by-set (share has) takes i take no_take lt in
      let f = are.sums has in
      let p : cond (has take.payer) take.amount 0 ≡ cond (has (take_at takes i).payer) (take_at takes i).amount 0 =
      λ k. cond (has (payer k)) (amount k) 0 in
      let t : cond (has take.taker) take.amount 0 ≡ cond (has take.taker) (take_at takes i).amount 0 =
      ap (λ (n : ℕ). cond (has take.taker) n 0) amount in
      omega (arith, e, f, p, t);
}

part_sum : (old taker payer : Bool) (left sum then total whole amount : ℕ) → amount ≤ whole
    → left + sum ≡ total + cond old amount 0
    → then + (cond old whole 0 + cond payer whole 0)
    ≡ sum + (cond old (whole - amount) 0 + cond payer (whole - amount) 0)
    → left + (then + (cond taker amount 0 + cond payer amount 0)) ≡ total + cond taker amount 0
part_sum true true true left sum then total whole amount le e f = omega arith
part_sum true true false left sum then total whole amount le e f = omega arith
part_sum true false true left sum then total whole amount le e f = omega arith
part_sum true false false left sum then total whole amount le e f = omega arith
part_sum false true true left sum then total whole amount le e f = omega arith
part_sum false true false left sum then total whole amount le e f = omega arith
part_sum false false true left sum then total whole amount le e f = omega arith
part_sum false false false left sum then total whole amount le e f = omega arith

-- another step takes a part of a take
pub balanced_part : (steps : List Step) (left : List ℕ) (takes : List Take) (i : ℕ) (less take : Take)
    → i < length takes → take.amount ≤ (take_at takes i).amount → less.taker ≡ (take_at takes i).taker
    → less.payer ≡ (take_at takes i).payer → less.amount ≡ (take_at takes i).amount - take.amount
    → take.payer ≡ (take_at takes i).payer
    → AreBalanced steps left takes (take_at takes i).taker take.amount
    → AreBalanced steps left (set takes i less ++ take ∷ []) take.taker take.amount
balanced_part steps left takes i less take lt enough taker payer amount same are = record {
  sums = λ has.
      let old = take_at takes i in
      let e : share has less ≡ cond (has old.taker) (old.amount - take.amount) 0
      + cond (has old.payer) (old.amount - take.amount) 0 =
      λ k. cond (has (taker k)) (amount k) 0 + cond (has (payer k)) (amount k) 0 in
      let f : share has take ≡ cond (has take.taker) take.amount 0 + cond (has old.payer) take.amount 0 =
      λ k. cond (has take.taker) take.amount 0 + cond (has (same k)) take.amount 0 in
      ap (λ (n : ℕ). total has left + n) (sum_by_push (share has) (set takes i less) take)
      ∙ (ap (λ (n : ℕ). total has left + (sum_by (share has) (set takes i less) + n)) f
      ∙ part_sum (has old.taker) (has take.taker) (has old.payer) (total has left) (sum_by (share has) takes)
      (sum_by (share has) (set takes i less)) (total has (sizes steps)) old.amount take.amount enough (are.sums has)
      (sum_by-set (share has) takes i less no_take lt ∙ ap (λ (n : ℕ). sum_by (share has) takes + n) e));
}

-- who pays outside of a set, may be taken from by any step
pub inside_more : (has : ℕ → Bool) (takes : List Take) (take : Take) → IsTakenInside has takes
    → has take.payer ≡ false → IsTakenInside has (takes ++ take ∷ [])
inside_more has takes take inside out =
    push_each (λ (t : Take). IsTrue (has t.payer) → IsTrue (has t.taker)) takes take no_take inside
    (λ is. absurd (false≢true (sym out ∙ is)))

pub inside_set : (has : ℕ → Bool) (takes : List Take) (i : ℕ) (take : Take) → i < length takes
    → IsTakenInside has takes → has take.payer ≡ false → IsTakenInside has (set takes i take)
inside_set has takes i take lt inside out =
    set_each (λ (t : Take). IsTrue (has t.payer) → IsTrue (has t.taker)) takes i take no_take lt inside
    (λ is. absurd (false≢true (sym out ∙ is)))

-- who takes outside of a set, takes from outside
pub payer_outside : (has : ℕ → Bool) (takes : List Take) (i : ℕ) → i < length takes → IsTakenInside has takes
    → has (take_at takes i).taker ≡ false → has (take_at takes i).payer ≡ false
payer_outside has takes i lt inside out = go (has (take_at takes i).payer) refl
  where
    go : (b : Bool) → has (take_at takes i).payer ≡ b → b ≡ false
    go false is = refl
    go true is = absurd (false≢true (sym out ∙ inside i lt is))
