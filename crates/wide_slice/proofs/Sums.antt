-- Sums over processes, and what sets of steps add to them.
use Rattle.std.proofs.Common.{◌≡◌, ℕ, zero, suc, ◌<◌, ◌≤◌, Bool, false, cond, List, [], ◌∷◌, ◌++◌, length, ℤ, pos, ◌+ℤ◌, ◌-ℤ◌, get_or, refl, sym, ap, ◌∙◌, ◌⊎◌, inl, inr, arith}
use Rattle.std.specs.Global.{Global}
use Rattle.std.specs.Prelude.{Vec, nat_le}
use Rattle.std.proofs.lemmas.Bool.{cases_lt, cond-false, cond-true, le-leb, lt-leb}
use Rattle.std.proofs.lemmas.Int.{ints}
use Rattle.wide_flow.specs.Steps.{step_at}
use Rattle.wide_flow.specs.declared.step.Step.{Step}
use Rattle.wide_slice.specs.Parts.{IsChain, kept_to}
use Rattle.wide_slice.specs.Steps.{weight_of}
use Rattle.wide_slice.specs.Values.{number_at, sum_at, value_of}

-- what a process adds, by the place of its row
pub value_is : (values : List (Vec ℤ Global)) (p : ℕ) (row : Vec ℤ Global) → p < length values
    → row ≡ get_or values p row → value_of values p ≡ number_at row.items
value_is [] p row lt is = absurd (omega (arith, lt))
value_is (first ∷ values) zero row lt is = ap (λ (r : Vec ℤ Global). number_at r.items) (sym is)
value_is (first ∷ values) (suc p) row lt is = value_is values p row (omega (arith, lt)) is

-- what the first n processes add at a cut
abbrev pub sum_upto : List (Vec ℤ Global) → ℕ → List ℕ → ℤ
sum_upto values zero cut = pos 0
sum_upto values (suc n) cut = sum_upto values n cut +ℤ value_of values n (get_or cut n 0)

-- one process more in front
upto_more : (row : Vec ℤ Global) (values : List (Vec ℤ Global)) (count : ℕ) (cut : List ℕ) (n : ℕ)
    → sum_upto (row ∷ values) (suc n) (count ∷ cut) ≡ number_at row.items count +ℤ sum_upto values n cut
upto_more row values count cut zero = omega (arith, ints)
upto_more row values count cut (suc n) = omega (arith, ints, upto_more row values count cut n)

pub sum_is : (values : List (Vec ℤ Global)) (cut : List ℕ) → length cut ≡ length values
    → sum_at values cut ≡ sum_upto values (length values) cut
sum_is [] cut same = refl
sum_is (row ∷ values) [] same = absurd (omega (arith, same))
sum_is (row ∷ values) (count ∷ cut) same =
    ap (λ (z : ℤ). number_at row.items count +ℤ z) (sum_is values cut (omega (arith, same)))
    ∙ sym (upto_more row values count cut (length values))

pub weight_append : (set : ℕ → ℕ → Bool) (xs ys : List Step)
    → weight_of set (xs ++ ys) ≡ weight_of set xs +ℤ weight_of set ys
weight_append set [] ys = omega (arith, ints)
weight_append set (step ∷ xs) ys = omega (arith, ints, weight_append set xs ys)

none_weigh : (set : ℕ → ℕ → Bool) (steps : List Step)
    → ((i : ℕ) → i < length steps → set (step_at steps i).process (step_at steps i).count ≡ false)
    → weight_of set steps ≡ pos 0
none_weigh set [] none = refl
none_weigh set (step ∷ steps) none =
    let first : cond (set step.process step.count) step.weight (pos 0) ≡ pos 0 =
    cond-false (set step.process step.count) step.weight (pos 0) (none 0 (omega arith)) in
    let rest : weight_of set steps ≡ pos 0 = none_weigh set steps (λ i lt. none (suc i) (omega (arith, lt))) in
    ap (λ (z : ℤ). z +ℤ weight_of set steps) first ∙ ap (λ (z : ℤ). pos 0 +ℤ z) rest

-- the set has the steps up to a count
abbrev pub IsUpTo : (ℕ → ℕ → Bool) → ℕ → List Step → Type 0
IsUpTo set count steps = (i : ℕ) → i < length steps
    → set (step_at steps i).process (step_at steps i).count ≡ nat_le (step_at steps i).count count

telescoped : (w a b d x rest : ℤ) → w ≡ a -ℤ b → x ≡ w → rest ≡ d -ℤ a → (x +ℤ rest) ≡ d -ℤ b
telescoped w a b d x rest e f g = omega (arith, ints)

nothing : (a : ℤ) → pos 0 ≡ a -ℤ a
nothing a = omega (arith, ints)

module _ (v : ℕ → ℤ) where
  -- each count of a chain is above the one where it begins
  pub chain_after : (low : ℕ) (part : List Step) → IsChain v low part → (i : ℕ) → i < length part
      → low < (step_at part i).count
  chain_after low [] chain i lt = absurd (omega (arith, lt))
  chain_after low (step ∷ part) (up, weight, chain) zero lt = up
  chain_after low (step ∷ part) (up, weight, chain) (suc i) lt =
      let after : step.count < (step_at part i).count = chain_after step.count part chain i (omega (arith, lt)) in
      omega (arith, up, after)

  pub chain_ordered : (low : ℕ) (part : List Step) → IsChain v low part → (i j : ℕ) → i < j → j < length part
      → (step_at part i).count < (step_at part j).count
  chain_ordered low [] chain i j less lt = absurd (omega (arith, lt))
  chain_ordered low (step ∷ part) chain i zero less lt = absurd (omega (arith, less))
  chain_ordered low (step ∷ part) (up, weight, chain) zero (suc j) less lt =
      chain_after step.count part chain j (omega (arith, lt))
  chain_ordered low (step ∷ part) (up, weight, chain) (suc i) (suc j) less lt =
      chain_ordered step.count part chain i j (omega (arith, less)) (omega (arith, lt))

  -- up to the count where it begins there is none
  pub kept_low : (low : ℕ) (part : List Step) → IsChain v low part → kept_to low part low ≡ low
  kept_low low [] chain = refl
  kept_low low (step ∷ part) (up, weight, chain) =
      cond-false (nat_le step.count low) (kept_to step.count part low) low (lt-leb step.count low up)

  -- the count of a step is the last one up to it
  pub kept_at : (low : ℕ) (part : List Step) → IsChain v low part → (i : ℕ) → i < length part
      → kept_to low part (step_at part i).count ≡ (step_at part i).count
  kept_at low [] chain i lt = absurd (omega (arith, lt))
  kept_at low (step ∷ part) (up, weight, chain) zero lt =
      cond-true (nat_le step.count step.count) (kept_to step.count part step.count) low
      (le-leb step.count step.count (omega arith))
      ∙ kept_low step.count part chain
  kept_at low (step ∷ part) (up, weight, chain) (suc i) lt =
      let after : step.count < (step_at part i).count = chain_after step.count part chain i (omega (arith, lt)) in
      cond-true (nat_le step.count (step_at part i).count) (kept_to step.count part (step_at part i).count) low
      (le-leb step.count (step_at part i).count (omega (arith, after)))
      ∙ kept_at step.count part chain i (omega (arith, lt))

  -- what the steps up to a count add together
  pub part_weight : (low : ℕ) (part : List Step) → IsChain v low part → (set : ℕ → ℕ → Bool) (count : ℕ)
      → IsUpTo set count part → weight_of set part ≡ v (kept_to low part count) -ℤ v low
  part_weight low [] chain set count up_to = nothing (v low)
  part_weight low (step ∷ part) (up, weight, chain) set count up_to =
      go (cases_lt count step.count)
      (part_weight step.count part chain set count (λ i lt. up_to (suc i) (omega (arith, lt))))
    where
      none : count < step.count → (i : ℕ) → i < length (step ∷ part)
          → set (step_at (step ∷ part) i).process (step_at (step ∷ part) i).count ≡ false
      none lt zero less = up_to 0 (omega arith) ∙ lt-leb step.count count lt
      none lt (suc i) less =
          let after : step.count < (step_at part i).count =
          chain_after step.count part chain i (omega (arith, less)) in
          up_to (suc i) less ∙ lt-leb (step_at part i).count count (omega (arith, after, lt))

      go : (count < step.count) ⊎ (step.count ≤ count)
          → weight_of set part ≡ v (kept_to step.count part count) -ℤ v step.count
          → weight_of set (step ∷ part) ≡ v (kept_to low (step ∷ part) count) -ℤ v low
      go (inl lt) rest =
          none_weigh set (step ∷ part) (none lt)
          ∙ (nothing (v low)
          ∙ ap (λ (n : ℕ). v n -ℤ v low)
          (sym (cond-false (nat_le step.count count) (kept_to step.count part count) low
          (lt-leb step.count count lt))))
      go (inr le) rest =
          telescoped step.weight (v step.count) (v low) (v (kept_to step.count part count))
          (cond (set step.process step.count) step.weight (pos 0)) (weight_of set part) weight
          (cond-true (set step.process step.count) step.weight (pos 0)
          (up_to 0 (omega arith) ∙ le-leb step.count count le))
          rest
          ∙ ap (λ (n : ℕ). v n -ℤ v low)
          (sym (cond-true (nat_le step.count count) (kept_to step.count part count) low (le-leb step.count count le)))
