-- Sets of steps by their processes and counts, and by their places in a list.
use Rattle.std.proofs.Common.{◌≡◌, ℕ, zero, suc, ◌+◌, ◌<◌, Bool, true, false, cond, eqb, ◌&&◌, ◌||◌, List, [], ◌∷◌, length, ℤ, pos, ◌+ℤ◌, refl, sym, ap, ◌∙◌, inl, inr, ◌⊎◌, arith}
use Rattle.std.specs.Prelude.{IsTrue, slice_index}
use Rattle.std.specs.List.{sum_by}
use Rattle.std.specs.List.Sorted.{IsPermutation}
use Rattle.std.proofs.lemmas.Bool.{and_from, and_parts, eq-eqb, eqb-true, or_cases}
use Rattle.std.proofs.lemmas.Int.{ints}
use Rattle.std.proofs.lemmas.List.Elements.{All-from_get_or, All-get_or}
use Rattle.std.proofs.lemmas.List.Sorted.{All-permutation, sum_by-IsPermutation}
use Rattle.std.proofs.lemmas.List.Sums.{sum_by-cons}
use borrow.Author.Differences.{down, up}
use Rattle.wide_flow.specs.Closed.{IsClosed, set_weight}
use Rattle.wide_flow.specs.Steps.{no_step, step_at}
use Rattle.wide_flow.specs.declared.step.Step.{Step}
use Rattle.wide_slice.specs.Steps.{HasStep, weight_of}

-- ---- a list in another order

abbrev StandsIn : List Step → Step → Type 0
StandsIn steps step = (i : ℕ) × (i < length steps) × (step ≡ step_at steps i)

-- each step stands in the other list
pub found : (xs ys : List Step) → IsPermutation xs ys → (i : ℕ) → i < length ys
    → (j : ℕ) × (j < length xs) × (step_at ys i ≡ step_at xs j)
found xs ys moved i lt =
    All-get_or (StandsIn xs) ys i no_step lt
    (All-permutation (StandsIn xs) xs ys moved (All-from_get_or (StandsIn xs) xs no_step (λ j low. (j, low, refl))))

abbrev weight_in : (ℕ → ℕ → Bool) → Step → ℤ
weight_in set step = cond (set step.process step.count) step.weight (pos 0)

split : (z : ℤ) → z +ℤ pos (down z) ≡ pos (up z)
split z = omega (arith, ints)

both : (a b : ℤ) (x y u v l g : ℕ) → a +ℤ pos x ≡ pos u → b +ℤ pos y ≡ pos v → l ≡ x + y → g ≡ u + v
    → (a +ℤ b) +ℤ pos l ≡ pos g
both a b x y u v l g e f m n = omega (arith, ints)

-- what a set weighs is what it gains less what it loses
weight_splits : (set : ℕ → ℕ → Bool) (steps : List Step)
    → weight_of set steps +ℤ pos (sum_by (λ s. down (weight_in set s)) steps)
    ≡ pos (sum_by (λ s. up (weight_in set s)) steps)
weight_splits set [] = refl
weight_splits set (step ∷ steps) =
    both (weight_in set step) (weight_of set steps) (down (weight_in set step))
    (sum_by (λ s. down (weight_in set s)) steps) (up (weight_in set step)) (sum_by (λ s. up (weight_in set s)) steps)
    (sum_by (λ s. down (weight_in set s)) (step ∷ steps)) (sum_by (λ s. up (weight_in set s)) (step ∷ steps))
    (split (weight_in set step)) (weight_splits set steps)
    (sum_by-cons (λ s. down (weight_in set s)) step steps) (sum_by-cons (λ s. up (weight_in set s)) step steps)

one_difference : (a b : ℤ) (l m g h : ℕ) → a +ℤ pos l ≡ pos g → b +ℤ pos m ≡ pos h → m ≡ l → h ≡ g → b ≡ a
one_difference a b l m g h e f same_l same_g = omega (arith, ints)

-- a set weighs as much in another order
pub weight_moved : (set : ℕ → ℕ → Bool) (xs ys : List Step) → IsPermutation xs ys
    → weight_of set ys ≡ weight_of set xs
weight_moved set xs ys moved =
    one_difference (weight_of set xs) (weight_of set ys) (sum_by (λ s. down (weight_in set s)) xs)
    (sum_by (λ s. down (weight_in set s)) ys) (sum_by (λ s. up (weight_in set s)) xs)
    (sum_by (λ s. up (weight_in set s)) ys) (weight_splits set xs) (weight_splits set ys)
    (sum_by-IsPermutation (λ s. down (weight_in set s)) xs ys moved)
    (sum_by-IsPermutation (λ s. up (weight_in set s)) xs ys moved)

-- ---- from processes and counts to places

abbrev pub places_of : (ℕ → ℕ → Bool) → List Step → ℕ → Bool
places_of set steps i = set (step_at steps i).process (step_at steps i).count

pub weight_of_places : (set : ℕ → ℕ → Bool) (steps : List Step)
    → set_weight (places_of set steps) steps ≡ weight_of set steps
weight_of_places set [] = refl
weight_of_places set (step ∷ steps) = ap (λ (z : ℤ). weight_in set step +ℤ z) (weight_of_places set steps)

-- ---- from places to processes and counts

abbrev is_step : Step → ℕ → ℕ → Bool
is_step step p n = eqb step.process p && eqb step.count n

-- the processes and counts of the steps at the places of the set
pub steps_in : (ℕ → Bool) → List Step → ℕ → ℕ → Bool
steps_in set [] p n = false
steps_in set (step ∷ steps) p n = (set 0 && is_step step p n) || steps_in (λ i. set (suc i)) steps p n

-- the step at this place of the set is that of this process and count
pub record IsFoundAt (set : ℕ → Bool) (steps : List Step) (p n i : ℕ) : Type 0 where
  pub there : i < length steps
  pub member : IsTrue (set i)
  pub process : (step_at steps i).process ≡ p
  pub count : (step_at steps i).count ≡ n

pub found_at : (set : ℕ → Bool) (steps : List Step) (p n : ℕ) → IsTrue (steps_in set steps p n)
    → (i : ℕ) × IsFoundAt set steps p n i
unfolding steps_in
found_at set [] p n is = absurd (cc)
found_at set (step ∷ steps) p n is =
    go (found_at (λ i. set (suc i)) steps p n)
    (or_cases (set 0 && is_step step p n) (steps_in (λ i. set (suc i)) steps p n) is)
  where
    first : (set 0 && is_step step p n) ≡ true → IsFoundAt set (step ∷ steps) p n 0
    first here =
        let parts = and_parts (set 0) (is_step step p n) here in
        let same = and_parts (eqb step.process p) (eqb step.count n) parts.1 in
        record {
          there = omega arith;
          member = parts.0;
          process = eqb-true step.process p same.0;
          count = eqb-true step.count n same.1;
        }

    later : (i : ℕ) → IsFoundAt (λ i. set (suc i)) steps p n i → IsFoundAt set (step ∷ steps) p n (suc i)
    later i at =
        record {
          there = let lt : i < length steps = at.there in omega arith;
          member = at.member;
          process = at.process;
          count = at.count;
        }

    go : (IsTrue (steps_in (λ i. set (suc i)) steps p n) → (i : ℕ) × IsFoundAt (λ i. set (suc i)) steps p n i)
        → ((set 0 && is_step step p n) ≡ true) ⊎ (steps_in (λ i. set (suc i)) steps p n ≡ true)
        → (i : ℕ) × IsFoundAt set (step ∷ steps) p n i
    go rest (inl here) = (0, first here)
    go rest (inr there) = let at = rest there in (suc at.0, later at.0 at.1)

or_left : (a b : Bool) → a ≡ true → (a || b) ≡ true
or_left a b is = cc

or_right : (a b : Bool) → b ≡ true → (a || b) ≡ true
or_right true b is = refl
or_right false b is = is

pub is_in : (set : ℕ → Bool) (steps : List Step) (i : ℕ) → i < length steps → IsTrue (set i)
    → HasStep (steps_in set steps) (step_at steps i)
unfolding steps_in
is_in set [] i lt member = absurd (omega arith)
is_in set (step ∷ steps) zero lt member =
    or_left _ _
    (and_from (set 0) _ member
    (and_from _ _ (eq-eqb step.process step.process refl) (eq-eqb step.count step.count refl)))
is_in set (step ∷ steps) (suc i) lt member =
    or_right _ _ (is_in (λ i. set (suc i)) steps i (omega arith) member)

-- what is in the set by its process and count is in it by its place, if the set is closed
pub in_place : (set : ℕ → Bool) (steps : List Step)
    → ((i : ℕ) → i < length steps
    → slice_index (step_at steps i).past.now (step_at steps i).process ≡ (step_at steps i).count)
    → IsClosed steps set → (i : ℕ) → i < length steps → HasStep (steps_in set steps) (step_at steps i) → IsTrue (set i)
in_place set steps own closed i lt has =
    go (found_at set steps (step_at steps i).process (step_at steps i).count has)
  where
    go : (j : ℕ) × IsFoundAt set steps (step_at steps i).process (step_at steps i).count j → IsTrue (set i)
    go (j, at) =
        closed i j lt at.there
        (let same : slice_index (step_at steps j).past.now (step_at steps i).process ≡ (step_at steps i).count =
        ap (λ (p : ℕ). slice_index (step_at steps j).past.now p) (sym at.process) ∙ (own j at.there ∙ at.count) in
        omega (arith, same))
        at.member

same_truth : (a b : Bool) → (IsTrue a → IsTrue b) → (IsTrue b → IsTrue a) → a ≡ b
same_truth true true f g = refl
same_truth true false f g = sym (f refl)
same_truth false true f g = g refl
same_truth false false f g = refl

-- sets with the same places weigh as much
same_weight : (set other : ℕ → Bool) (steps : List Step) → ((i : ℕ) → i < length steps → set i ≡ other i)
    → set_weight set steps ≡ set_weight other steps
same_weight set other [] same = refl
same_weight set other (step ∷ steps) same =
    ap (λ (b : Bool). cond b step.weight (pos 0) +ℤ set_weight (λ i. set (suc i)) steps) (same 0 (omega arith))
    ∙ ap (λ (z : ℤ). cond (other 0) step.weight (pos 0) +ℤ z)
    (same_weight (λ i. set (suc i)) (λ i. other (suc i)) steps (λ i lt. same (suc i) (omega (arith, lt))))

pub weight_of_steps : (set : ℕ → Bool) (steps : List Step)
    → ((i : ℕ) → i < length steps
    → slice_index (step_at steps i).past.now (step_at steps i).process ≡ (step_at steps i).count)
    → IsClosed steps set → set_weight set steps ≡ weight_of (steps_in set steps) steps
weight_of_steps set steps own closed =
    same_weight set (places_of (steps_in set steps) steps) steps (λ i lt.
    same_truth (set i) (places_of (steps_in set steps) steps i) (is_in set steps i lt)
    (in_place set steps own closed i lt))
    ∙ weight_of_places (steps_in set steps) steps
