-- What the first steps have left is what closed sets of them can have at most, and one of them has.
use Rattle.std.proofs.Common.{◌≡◌, ◌≢◌, ℕ, zero, suc, ◌+◌, ◌*◌, ◌<◌, ◌≤◌, Bool, true, false, cond, not, ◌&&◌, ltb, IsTrue, List, [], ◌∷◌, pos, ◌<ℤ◌, ◌≤ℤ◌, length, get_or, replicate, refl, sym, ap, ◌∙◌, subst, ◌⊎◌, inl, inr, arith}
use Rattle.std.specs.Global.{Global}
use Rattle.std.specs.Prelude.{Vec, unsigned_abs}
use Rattle.std.proofs.lemmas.Bool.{and_parts, and_from, and_left, cases_Bool, cases_eq, cases_lt, false≢true, le-ltb, lt-ltb, ltb-true, not_from_false, not-true}
use Rattle.std.proofs.lemmas.List.{length-map, length-replicate}
use Rattle.wide_flow.specs.declared.step.Step.{Step}
use Rattle.wide_flow.specs.declared.takes.Take.{Take}
use Rattle.wide_flow.specs.declared.takes.Flow.{Flow}
use Rattle.wide_flow.specs.Closed.{HasKeysUpTo, HasNoKey, IsClosed, IsFirstKey, set_weight}
use Rattle.wide_flow.specs.Steps.{AreSteps, is_negative, size_limit, sizes, step_at, step_limit}
use Rattle.wide_flow.specs.Flows.{AreBalanced, AreTakes, IsFlow, IsFrozen, take_at, total}
use Rattle.wide_flow.specs.Parts.{IsPart}
use Rattle.wide_flow.proofs.Duality.{sums, weighs_enough, weighs_less}
use Rattle.wide_flow.proofs.Totals.{total-le, total_bound, total_more, total_same}
use Rattle.wide_flow.proofs.Weights.{negatives, positives}

-- the steps among the first n that aren't negative
abbrev pub handled : List Step → ℕ → ℕ → Bool
handled steps n s = ltb s n && not (is_negative steps s)

-- the size of a step by its place
size_at : (steps : List Step) (i : ℕ) → get_or (sizes steps) i 0 ≡ unsigned_abs (step_at steps i).weight
size_at [] i = refl
size_at (step ∷ steps) zero = refl
size_at (step ∷ steps) (suc i) = size_at steps i

nothing : (xs : List ℕ) → total (λ _. false) xs ≡ 0
nothing [] = refl
nothing (x ∷ xs) = omega (arith, nothing xs)

-- no term
zero_total : (has : ℕ → Bool) (xs : List ℕ) → ((i : ℕ) → i < length xs → has i ≡ true → get_or xs i 0 ≡ 0)
    → total has xs ≡ 0
zero_total has xs none =
    let e : total has xs ≡ total (λ _. false) xs =
    total_same has (λ _. false) xs xs refl
    (λ i lt. elim (cases_Bool (has i)) [
      | inl is ↦ ap (λ (b : Bool). cond b (get_or xs i 0) 0) is ∙ none i lt is
      | inr out ↦ ap (λ (b : Bool). cond b (get_or xs i 0) 0) out
    ]) in
    e ∙ nothing xs

ltb_next : (s n : ℕ) → s ≢ n → ltb s n ≡ ltb s (n + 1)
ltb_next s n apart = go (cases_lt s n)
  where
    go : (s < n) ⊎ (n ≤ s) → ltb s n ≡ ltb s (n + 1)
    go (inl low) = lt-ltb s n low ∙ sym (lt-ltb s (n + 1) (omega (arith, low)))
    go (inr high) = le-ltb s n high ∙ sym (le-ltb s (n + 1) (omega (arith, high, apart)))

handled_next : (steps : List Step) (n s : ℕ) → s ≢ n → handled steps n s ≡ handled steps (n + 1) s
handled_next steps n s apart = ap (λ (b : Bool). b && not (is_negative steps s)) (ltb_next s n apart)

-- what is handled
handled_is : (steps : List Step) (n s : ℕ) → handled steps n s ≡ true → (s < n) × (is_negative steps s ≡ false)
handled_is steps n s is =
    let parts = and_parts (ltb s n) (not (is_negative steps s)) is in
    (ltb-true s n parts.0, not-true (is_negative steps s) parts.1)

handled_from : (steps : List Step) (n s : ℕ) → s < n → is_negative steps s ≡ false → handled steps n s ≡ true
handled_from steps n s lt positive =
    and_from (ltb s n) (not (is_negative steps s)) (lt-ltb s n lt) (not_from_false (is_negative steps s) positive)

not_handled : (steps : List Step) (n : ℕ) → handled steps n n ≡ false
not_handled steps n = and_left (ltb n n) (not (is_negative steps n)) (le-ltb n n (omega arith))

pub handled_none : (steps : List Step) (left : List ℕ) → total (handled steps 0) left ≡ 0
handled_none steps left =
    zero_total (handled steps 0) left
    (λ i lt is. let low : i < 0 = (handled_is steps 0 i is).0 in absurd (omega (arith, low)))

pub handled_skip : (steps : List Step) (left : List ℕ) (n : ℕ) → is_negative steps n ≡ true
    → total (handled steps n) left ≡ total (handled steps (n + 1)) left
handled_skip steps left n negative =
    total_same (handled steps n) (handled steps (n + 1)) left left refl
    (λ i lt. ap (λ (b : Bool). cond b (get_or left i 0) 0) (same i (cases_eq i n)))
  where
    out : (b : Bool) → handled steps (n + 1) n ≡ b → b ≡ false
    out true is = absurd (false≢true (sym (handled_is steps (n + 1) n is).1 ∙ negative))
    out false is = refl

    same : (i : ℕ) → (i ≡ n) ⊎ (i ≢ n) → handled steps n i ≡ handled steps (n + 1) i
    same i (inl e) =
        ap (handled steps n) e ∙ (not_handled steps n
        ∙ (sym (out (handled steps (n + 1) n) refl) ∙ ap (handled steps (n + 1)) (sym e)))
    same i (inr apart) = handled_next steps n i apart

-- the next step
pub handled_more : (steps : List Step) (left left' : List ℕ) (n : ℕ) → n < length left' → length left ≡ length left'
    → is_negative steps n ≡ false
    → ((s : ℕ) → s ≢ n → is_negative steps s ≡ false → get_or left' s 0 ≡ get_or left s 0)
    → total (handled steps n) left + get_or left' n 0 ≡ total (handled steps (n + 1)) left'
handled_more steps left left' n lt long positive same =
    let e : total (handled steps n) left ≡ total (handled steps n) left' =
    total_same (handled steps n) (handled steps n) left left' long (λ i low. each i (cases_Bool (handled steps n i))) in
    let f : total (handled steps (n + 1)) left' ≡ total (handled steps n) left' + get_or left' n 0 =
    total_more (handled steps n) (handled steps (n + 1)) left' n lt (not_handled steps n)
    (handled_from steps (n + 1) n (omega arith) positive) (handled_next steps n) in
    omega (arith, e, f)
  where
    each : (i : ℕ) → (handled steps n i ≡ true) ⊎ (handled steps n i ≡ false)
        → cond (handled steps n i) (get_or left i 0) 0 ≡ cond (handled steps n i) (get_or left' i 0) 0
    each i (inl is) =
        let low : i < n = (handled_is steps n i is).0 in
        ap (cond (handled steps n i) (get_or left i 0)) refl
        ∙ ap (λ (x : ℕ). cond (handled steps n i) x 0)
        (sym (same i (λ e. absurd (omega (arith, low, e))) (handled_is steps n i is).1))
    each i (inr out) =
        ap (λ (b : Bool). cond b (get_or left i 0) 0) out
        ∙ sym (ap (λ (b : Bool). cond b (get_or left' i 0) 0) out)

-- no sum is large
pub few_left : (processes : ℕ) (steps : List Step) (flow : Flow) (has : ℕ → Bool) → AreSteps processes steps
    → IsFlow steps flow 0 0 → total has flow.left.items ≤ step_limit * size_limit
few_left processes steps flow has all is =
    let e = sums steps flow.left.items flow.takes.items flow.last.items is.takes is.balanced has has in
    let n : length (sizes steps) ≡ length steps = length-map steps (λ (s : Step). unsigned_abs s.weight) in
    let few : length steps ≤ step_limit = all.few in
    let most =
    total_bound has (sizes steps) size_limit
    (λ i lt.
    let small : unsigned_abs (step_at steps i).weight < size_limit = all.small i (omega (arith, lt, n)) in
    omega (arith, size_at steps i, small)) in
    omega (arith, e, most, n, few)

-- the part with the next step, if it is negative
pub part_skipped : (processes : ℕ) (steps : List Step) (rows : List (Vec ℕ Global)) (flow : Flow) (frozen : List ℕ)
    (n : ℕ) → IsPart processes steps rows flow frozen n n → is_negative steps n ≡ true
    → IsPart processes steps rows flow frozen (n + 1) (n + 1)
part_skipped processes steps rows flow frozen n part negative =
    let old : IsFrozen steps flow n part.set = part.is_frozen in
    record {
      flow_is = part.flow_is;
      frozen_each = part.frozen_each;
      frozen_in = part.frozen_in;
      below = λ i lt. let low : (take_at flow.takes.items i).taker < n = part.below i lt in omega (arith, low);
      set = part.set;
      members = part.members;
      is_frozen = record {
        closed = old.closed;
        full = old.full;
        inside = old.inside;
        all_left = λ e lt positive some.
            old.all_left e (omega (arith, lt, apart e positive)) positive some;
        keys = λ e lt is. up (step_at steps e).key (old.keys e lt is);
      };
    }
  where
    apart : (e : ℕ) → is_negative steps e ≡ false → e ≢ n
    apart e positive same = false≢true (sym positive ∙ (ap (is_negative steps) same ∙ negative))

    up : (key : ℕ) → ((i : ℕ) × (i < n) × (key ≤ (step_at steps i).key))
        → (i : ℕ) × (i < n + 1) × (key ≤ (step_at steps i).key)
    up key (i, lt, le) = (i, omega (arith, lt), le)

module _ (processes : ℕ) (steps : List Step) (rows : List (Vec ℕ Global)) (flow : Flow) (frozen : List ℕ) (n : ℕ)
    (part : IsPart processes steps rows flow frozen n n) (target : ℕ)
    (less : total (handled steps n) flow.left.items < target) where
  -- a closed set of the first steps
  first_less : (set : ℕ → Bool) → IsClosed steps set
      → ((s : ℕ) → s < length steps → IsTrue (set s) → s < n) → set_weight set steps <ℤ pos target
  first_less set closed first =
      let is : IsFlow steps flow 0 0 = part.flow_is in
      weighs_less steps flow.left.items flow.takes.items flow.last.items is.takes is.balanced set
      (total (handled steps n) flow.left.items) target closed
      (total-le (positives steps set) (handled steps n) flow.left.items
      (λ i lt.
      let there : i < length steps = omega (arith, lt, is.takes.left_each) in
      each i there (cases_Bool (set i)))) less
    where
      each : (i : ℕ) → i < length steps → (set i ≡ true) ⊎ (set i ≡ false)
          → cond (positives steps set i) (get_or flow.left.items i 0) 0
          ≤ cond (handled steps n i) (get_or flow.left.items i 0) 0
      each i there (inl is) =
          let e : positives steps set i ≡ handled steps n i =
          λ k. (is ∙ sym (lt-ltb i n (first i there is))) k && not (is_negative steps i) in
          omega (arith, ap (λ (b : Bool). cond b (get_or flow.left.items i 0) 0) e)
      each i there (inr out) =
          let e : positives steps set i ≡ false = and_left (set i) (not (is_negative steps i)) out in
          omega (arith, ap (λ (b : Bool). cond b (get_or flow.left.items i 0) 0) e)

  -- all steps are among the first ones
  pub none_reaches : length steps ≤ n → HasNoKey steps target
  none_reaches all set closed = first_less set closed (λ s lt is. omega (arith, lt, all))

-- the first key, if the first steps have reached the target with this one
pub first_found : (processes : ℕ) (steps : List Step) (rows : List (Vec ℕ Global)) (flow flow' : Flow)
    (frozen frozen' : List ℕ) (n target : ℕ) → AreSteps processes steps → n < length steps
    → IsPart processes steps rows flow frozen n n → IsPart processes steps rows flow' frozen' (n + 1) (n + 1)
    → total (handled steps n) flow.left.items < target
    → target ≤ total (handled steps (n + 1)) flow'.left.items → IsFirstKey steps target (step_at steps n).key
first_found processes steps rows flow flow' frozen frozen' n target all there part part' less enough = record {
  some = (part'.set, old.closed, keys, reaches);
  none_before = λ set closed low.
      first_less processes steps rows flow frozen n part target less set closed
      (λ s lt is. before s lt (low s lt is) (cases_lt s n));
}
  where
    old : IsFrozen steps flow' (n + 1) part'.set
    old = part'.is_frozen

    up : (i : ℕ) → i < n + 1 → (i ≡ n) ⊎ (i ≢ n) → (step_at steps i).key ≤ (step_at steps n).key
    up i lt (inl same) = omega (arith, ap (λ (k : ℕ). (step_at steps k).key) same)
    up i lt (inr other) = all.ascending i n (omega (arith, lt, other)) there

    last : (key : ℕ) → ((i : ℕ) × (i < n + 1) × (key ≤ (step_at steps i).key)) → key ≤ (step_at steps n).key
    last key (i, lt, le) = omega (arith, le, up i lt (cases_eq i n))

    keys : HasKeysUpTo steps (step_at steps n).key part'.set
    keys e lt is = last (step_at steps e).key (part'.is_frozen.keys e lt is)

    before : (s : ℕ) → s < length steps → (step_at steps s).key < (step_at steps n).key → (s < n) ⊎ (n ≤ s) → s < n
    before s lt low (inl less) = less
    before s lt low (inr high) = which (cases_eq s n)
      where
        which : (s ≡ n) ⊎ (s ≢ n) → s < n
        which (inl same) = absurd (omega (arith, low, ap (λ (k : ℕ). (step_at steps k).key) same))
        which (inr other) = absurd (omega (arith, low, all.ascending n s (omega (arith, high, other)) lt))

    is : IsFlow steps flow' 0 0
    is = part'.flow_is

    full : total (negatives steps part'.set) flow'.left.items ≡ 0
    full =
        zero_total (negatives steps part'.set) flow'.left.items
        (λ i lt member.
        let both = and_parts (part'.set i) (is_negative steps i) member in
        part'.is_frozen.full i (omega (arith, lt, is.takes.left_each)) both.0 both.1)

    least : (i : ℕ) → (handled steps (n + 1) i ≡ true) ⊎ (handled steps (n + 1) i ≡ false)
        → (0 < get_or flow'.left.items i 0) ⊎ (get_or flow'.left.items i 0 ≤ 0)
        → cond (handled steps (n + 1) i) (get_or flow'.left.items i 0) 0
        ≤ cond (positives steps part'.set i) (get_or flow'.left.items i 0) 0
    least i (inl member) (inl some) =
        let have = handled_is steps (n + 1) i member in
        let e : positives steps part'.set i ≡ true =
        and_from (part'.set i) (not (is_negative steps i)) (part'.is_frozen.all_left i have.0 have.1 some)
        (not_from_false (is_negative steps i) have.1) in
        omega (arith, ap (λ (b : Bool). cond b (get_or flow'.left.items i 0) 0) (member ∙ sym e))
    least i (inl member) (inr none) =
        let e = ap (λ (b : Bool). cond b (get_or flow'.left.items i 0) 0) member in omega (arith, e, none)
    least i (inr out) which =
        let e = ap (λ (b : Bool). cond b (get_or flow'.left.items i 0) 0) out in omega (arith, e)

    reaches : pos target ≤ℤ set_weight part'.set steps
    reaches =
        weighs_enough steps flow'.left.items flow'.takes.items flow'.last.items is.takes is.balanced part'.set target
        part'.is_frozen.inside full
        (let le : total (handled steps (n + 1)) flow'.left.items ≤ total (positives steps part'.set) flow'.left.items =
        total-le (handled steps (n + 1)) (positives steps part'.set) flow'.left.items
        (λ i lt. least i (cases_Bool (handled steps (n + 1) i)) (cases_lt 0 (get_or flow'.left.items i 0))) in
        omega (arith, enough, le))

-- nothing is taken yet
pub part_none : (processes : ℕ) (steps : List Step) (rows : List (Vec ℕ Global)) (flow : Flow)
    → flow.left.items ≡ sizes steps → flow.takes.items ≡ [] → flow.last.items ≡ replicate {A = ℕ} (length steps) 0
    → IsPart processes steps rows flow (replicate processes 0) 0 0
part_none processes steps rows flow left takes last = record {
  flow_is = record {
    takes =
        subst (λ (s : List ℕ × List Take × List ℕ). AreTakes steps s.0 s.1 s.2)
        (λ k. (sym left k, sym takes k, sym last k)) none;
    balanced =
        subst (λ (s : List ℕ × List Take). AreBalanced steps s.0 s.1 0 0) (λ k. (sym left k, sym takes k))
        (record { sums = λ has. even (has 0) (total has (sizes steps)) });
  };
  frozen_each = length-replicate processes 0;
  frozen_in = λ p lt. omega (arith, zeros processes p);
  below = λ i lt. absurd (omega (arith, lt, ap length takes));
  set = λ _. false;
  members = λ p k lt low. absurd (omega (arith, low, zeros processes p));
  is_frozen = record {
    closed = λ f e lt less past is. is;
    full = λ f lt is. absurd (false≢true is);
    inside = λ i lt is. is;
    all_left = λ e lt. absurd (omega (arith, lt));
    keys = λ e lt is. absurd (false≢true is);
  };
}
  where
    zeros : (n p : ℕ) → get_or (replicate {A = ℕ} n 0) p 0 ≡ 0
    zeros zero p = refl
    zeros (suc n) zero = refl
    zeros (suc n) (suc p) = zeros n p

    even : (b : Bool) (n : ℕ) → n + 0 ≡ n + cond b 0 0
    even true n = refl
    even false n = refl

    none : AreTakes steps (sizes steps) [] (replicate (length steps) 0)
    none = record {
      left_each = length-map steps (λ (s : Step). unsigned_abs s.weight);
      last_each = length-replicate (length steps) 0;
      each = λ i lt. absurd (omega (arith, lt));
      some = λ i lt. absurd (omega (arith, lt));
      linked = record {
        last_in = λ f. omega (arith, zeros (length steps) f);
        last_own = λ f i is. absurd (omega (arith, is, zeros (length steps) f));
        last_all = λ f i le lt. absurd (omega (arith, lt));
        before_in = λ i lt. absurd (omega (arith, lt));
        before_own = λ i j lt. absurd (omega (arith, lt));
        before_all = λ i j lt. absurd (omega (arith, lt));
      };
    }
