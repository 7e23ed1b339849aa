-- Steps that are put in order are steps from which a first key is found.
use Rattle.std.proofs.Common.{◌≡◌, ℕ, suc, ◌+◌, ◌*◌, ◌<◌, ◌≤◌, Bool, cond, List, [], ◌∷◌, length, ℤ, pos, ◌+ℤ◌, refl, sym, ap, ◌∙◌, subst, inl, inr, ◌⊎◌, arith}
use Rattle.std.specs.Prelude.{slice_index, unsigned_abs}
use Rattle.std.proofs.lemmas.Bool.{cases_lt}
use Rattle.std.proofs.lemmas.List.Sorted.{IsPermutation-sym, length_permutation}
use Rattle.def_model.specs.Lattice.{IsWithin}
use Rattle.wide_flow.specs.Steps.{AreSteps, IsPast, no_step, size_limit, step_at}
use Rattle.wide_flow.specs.declared.step.Step.{Step}
use Rattle.wide_slice.specs.Steps.{HasStep, weight_of}
use Rattle.wide_reach.specs.declared.key.Key.{Key}
use Rattle.wide_reach.specs.Bounds.{AreUnordered}
use Rattle.wide_reach.specs.Keys.{AreInOrder, IsKeyed, IsOrderKey, outside}
use Rattle.wide_reach.proofs.CountKeys.{key_within}
use Rattle.wide_reach.proofs.StepSets.{found, weight_moved}

-- a step with a key is as its step otherwise
pub record IsAlike (step keyed : Step) : Type 0 where
  pub process : keyed.process ≡ step.process
  pub count : keyed.count ≡ step.count
  pub past : keyed.past.now ≡ step.past.now
  pub weight : keyed.weight ≡ step.weight

pub alike : (bound : List ℕ) (key : Key) (step keyed : Step) → IsKeyed bound key step keyed → IsAlike step keyed
alike bound key step keyed is = record {
  process = ap (λ (s : Step). s.process) is.same;
  count = ap (λ (s : Step). s.count) is.same;
  past = ap (λ (s : Step). s.past.now) is.same;
  weight = ap (λ (s : Step). s.weight) is.same;
}

-- a set that has the one has the other
pub has_alike : (set : ℕ → ℕ → Bool) (step keyed : Step) → IsAlike step keyed → HasStep set step → HasStep set keyed
has_alike set step keyed is has =
    subst (λ (s : ℕ × ℕ). set s.0 s.1 ≡ Bool.true) (λ i. (sym is.process i, sym is.count i)) has

pub has_back : (set : ℕ → ℕ → Bool) (step keyed : Step) → IsAlike step keyed → HasStep set keyed → HasStep set step
has_back set step keyed is has = subst (λ (s : ℕ × ℕ). set s.0 s.1 ≡ Bool.true) (λ i. (is.process i, is.count i)) has

keyed_weight : (set : ℕ → ℕ → Bool) (bound : List ℕ) (key : Key) (steps keyed : List Step)
    → length keyed ≡ length steps
    → ((i : ℕ) → i < length steps → IsKeyed bound key (step_at steps i) (step_at keyed i))
    → weight_of set keyed ≡ weight_of set steps
keyed_weight set bound key [] [] same each = refl
keyed_weight set bound key [] (t ∷ keyed) same each = absurd (omega arith)
keyed_weight set bound key (s ∷ steps) [] same each = absurd (omega arith)
keyed_weight set bound key (s ∷ steps) (t ∷ keyed) same each =
    let here : IsKeyed bound key s t = each 0 (omega arith) in
    ap (λ (r : Step). cond (set r.process r.count) r.weight (pos 0) +ℤ weight_of set keyed) here.same
    ∙ ap (λ (z : ℤ). cond (set s.process s.count) s.weight (pos 0) +ℤ z)
    (keyed_weight set bound key steps keyed (omega arith) (λ i lt. each (suc i) (omega (arith, lt))))

-- where a step stands in the other list
pub record StandsAt (bound : List ℕ) (key : Key) (steps sorted : List Step) (i j : ℕ) : Type 0 where
  pub from : i < length steps
  pub to : j < length sorted
  pub keyed : IsKeyed bound key (step_at steps i) (step_at sorted j)

module _ (bound : List ℕ) (key : Key) (steps sorted : List Step) (are : AreInOrder bound key steps sorted) where
  pub same_length : length sorted ≡ length steps
  same_length = length_permutation are.keyed sorted are.permutation ∙ are.are_keyed.one_each

  pub same_weight : (set : ℕ → ℕ → Bool) → weight_of set sorted ≡ weight_of set steps
  same_weight set =
      weight_moved set are.keyed sorted are.permutation
      ∙ keyed_weight set bound key steps are.keyed are.are_keyed.one_each are.are_keyed.each

  pub from_sorted : (j : ℕ) → j < length sorted → (i : ℕ) × StandsAt bound key steps sorted i j
  from_sorted j lt =
      let (i, low, same) = found are.keyed sorted are.permutation j lt in
      let there : i < length steps = omega (arith, low, are.are_keyed.one_each) in (
        i,
        record {
          from = there;
          to = lt;
          keyed = subst (λ (t : Step). IsKeyed bound key (step_at steps i) t) (sym same) (are.are_keyed.each i there);
        },
      )

  pub to_sorted : (i : ℕ) → i < length steps → (j : ℕ) × StandsAt bound key steps sorted i j
  to_sorted i lt =
      let (j, low, same) =
      found sorted are.keyed (IsPermutation-sym are.keyed sorted are.permutation) i
      (omega (arith, lt, are.are_keyed.one_each)) in (
        j,
        record {
          from = lt;
          to = low;
          keyed = subst (λ (t : Step). IsKeyed bound key (step_at steps i) t) same (are.are_keyed.each i lt);
        },
      )

-- what is in the past stays so
pub past_alike : (steps sorted : List Step) (f e g h : ℕ) → IsAlike (step_at steps f) (step_at sorted g)
    → IsAlike (step_at steps e) (step_at sorted h) → IsPast steps f e → IsPast sorted g h
past_alike steps sorted f e g h first second past =
    subst (λ (t : ℕ × ℕ × List ℕ). t.0 ≤ slice_index t.2 t.1)
    (λ i. (sym first.count i, sym first.process i, sym second.past i)) past

pub past_back : (steps sorted : List Step) (f e g h : ℕ) → IsAlike (step_at steps f) (step_at sorted g)
    → IsAlike (step_at steps e) (step_at sorted h) → IsPast sorted g h → IsPast steps f e
past_back steps sorted f e g h first second past =
    subst (λ (t : ℕ × ℕ × List ℕ). t.0 ≤ slice_index t.2 t.1)
    (λ i. (first.count i, first.process i, second.past i)) past

-- a past within another one has no greater key
order_within : (bound : List ℕ) (key : Key) (a b : List ℕ) (k l : ℕ) → IsWithin a b → IsOrderKey bound key a k
    → IsOrderKey bound key b l → k ≤ l
order_within bound key a b k l within (inl (low, same, less)) (inl (low', same', less')) =
    let le = key_within key a b within in omega (arith, same, same', le)
order_within bound key a b k l within (inl (low, same, less)) (inr (high, is)) = omega (arith, less, is)
order_within bound key a b k l within (inr (high, is)) (inl (low, same, less)) =
    absurd (high (λ p. let i = within p in let j = low p in omega (arith, i, j)))
order_within bound key a b k l within (inr (high, is)) (inr (high', is')) = omega (arith, is, is')

ranks_ascend : (k l m n : ℕ) → k * outside + m ≤ l * outside + n → n < outside → k ≤ l
ranks_ascend k l m n le small = omega arith

ranks_count : (k l m n : ℕ) → k * outside + m ≤ l * outside + n → (n < m → l ≤ k) → m ≤ n
ranks_count k l m n le back = go (cases_lt n m)
  where
    go : (n < m) ⊎ (m ≤ n) → m ≤ n
    go (inl less) = let i : l ≤ k = back less in omega arith
    go (inr ge) = ge

module _ (processes : ℕ) (bound : List ℕ) (key : Key) (steps sorted : List Step) (all : AreUnordered processes steps)
    (are : AreInOrder bound key steps sorted) where
  monotone : (f e : ℕ) → f < length sorted → e < length sorted → IsPast sorted f e
      → (step_at sorted f).key ≤ (step_at sorted e).key
  monotone f e low high past =
      let (g, first) = from_sorted bound key steps sorted are f low in
      let (h, second) = from_sorted bound key steps sorted are e high in
      order_within bound key (step_at steps g).past.now (step_at steps h).past.now (step_at sorted f).key
      (step_at sorted e).key
      (all.transitive g h first.from second.from
      (past_back steps sorted g h f e (alike bound key (step_at steps g) (step_at sorted f) first.keyed)
      (alike bound key (step_at steps h) (step_at sorted e) second.keyed) past))
      first.keyed.ordered_by second.keyed.ordered_by

  pub own : (i : ℕ) → i < length sorted
      → slice_index (step_at sorted i).past.now (step_at sorted i).process ≡ (step_at sorted i).count
  own i lt =
      let (j, at) = from_sorted bound key steps sorted are i lt in
      let same = alike bound key (step_at steps j) (step_at sorted i) at.keyed in
      subst (λ (t : List ℕ × ℕ × ℕ). slice_index t.0 t.1 ≡ t.2)
      (λ k. (sym same.past k, sym same.process k, sym same.count k)) (all.own j at.from)

  counted : (i j : ℕ) → i < j → j < length sorted → (step_at sorted i).process ≡ (step_at sorted j).process
      → (step_at sorted i).count ≤ (step_at sorted j).count
  counted i j less lt same =
      let low : i < length sorted = omega arith in
      ranks_count (step_at sorted i).key (step_at sorted j).key (step_at sorted i).count (step_at sorted j).count
      (are.ascending i j no_step (omega arith) lt)
      (λ above.
      let stands : slice_index (step_at sorted i).past.now (step_at sorted j).process ≡ (step_at sorted i).count =
      ap (λ (p : ℕ). slice_index (step_at sorted i).past.now p) (sym same) ∙ own i low in
      monotone j i lt low (omega (arith, above, stands)))

  pub are_steps : AreSteps processes sorted
  are_steps = record {
    few = omega (arith, same_length bound key steps sorted are, all.few);
    small = λ i lt.
        let (j, at) = from_sorted bound key steps sorted are i lt in
        let same = alike bound key (step_at steps j) (step_at sorted i) at.keyed in
        subst (λ (z : ℤ). unsigned_abs z < size_limit) (sym same.weight) (all.small j at.from);
    there = λ i lt.
        let (j, at) = from_sorted bound key steps sorted are i lt in
        let same = alike bound key (step_at steps j) (step_at sorted i) at.keyed in
        subst (λ (p : ℕ). p < processes) (sym same.process) (all.there j at.from);
    one_each = λ i lt.
        let (j, at) = from_sorted bound key steps sorted are i lt in
        let same = alike bound key (step_at steps j) (step_at sorted i) at.keyed in
        ap (λ (xs : List ℕ). length xs) same.past ∙ all.one_each j at.from;
    own = λ i lt. let stands = own i lt in omega (arith, stands);
    transitive = λ f e p low high there past.
        let (g, first) = from_sorted bound key steps sorted are f low in
        let (h, second) = from_sorted bound key steps sorted are e high in
        let same = alike bound key (step_at steps g) (step_at sorted f) first.keyed in
        let same' = alike bound key (step_at steps h) (step_at sorted e) second.keyed in
        subst (λ (t : List ℕ × List ℕ). slice_index t.0 p ≤ slice_index t.1 p)
        (λ k. (sym same.past k, sym same'.past k))
        (all.transitive g h first.from second.from (past_back steps sorted g h f e same same' past) p);
    ascending = λ i j less lt.
        let (g, at) = from_sorted bound key steps sorted are j lt in
        ranks_ascend (step_at sorted i).key (step_at sorted j).key (step_at sorted i).count (step_at sorted j).count
        (are.ascending i j no_step (omega arith) lt) at.keyed.small;
    monotone = monotone;
    counted = λ i j less lt same negative negative'. counted i j less lt same;
  }
