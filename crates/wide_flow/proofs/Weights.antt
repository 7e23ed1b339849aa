-- What a set weighs is what its positive members add, less what its negative ones take.
use Rattle.std.proofs.Common.{◌≡◌, ℕ, suc, ◌+◌, ◌<◌, ◌≤◌, Bool, true, false, cond, not, ◌&&◌, List, [], ◌∷◌, ℤ, pos, negsuc, ◌+ℤ◌, ◌<ℤ◌, ◌≤ℤ◌, refl, sym, ap, subst, arith}
use Rattle.std.specs.Prelude.{int_lt, unsigned_abs}
use Rattle.std.proofs.lemmas.Bool.{le-ltb}
use Rattle.std.proofs.lemmas.Int.{ints}
use Rattle.wide_flow.specs.declared.step.Step.{Step}
use Rattle.wide_flow.specs.Closed.{set_weight}
use Rattle.wide_flow.specs.Flows.{total}
use Rattle.wide_flow.specs.Steps.{is_negative, sizes}

-- the negative members of a set, and the others
abbrev pub negatives : List Step → (ℕ → Bool) → ℕ → Bool
negatives steps has i = has i && is_negative steps i

abbrev pub positives : List Step → (ℕ → Bool) → ℕ → Bool
positives steps has i = has i && not (is_negative steps i)

head : (w : ℤ) (b : Bool) → cond b w (pos 0) +ℤ pos (cond (b && int_lt w (pos 0)) (unsigned_abs w) 0)
    ≡ pos (cond (b && not (int_lt w (pos 0))) (unsigned_abs w) 0)
head (pos n) true =
    subst (λ (b : Bool). pos (n + cond b n 0) ≡ pos (cond (not b) n 0)) (sym (le-ltb n 0 (omega arith)))
    (ap pos (omega arith))
head (pos n) false = refl
head (negsuc n) true = omega (arith, ints)
head (negsuc n) false = refl

both : (a b : ℤ) (x y u v : ℕ) → a +ℤ pos x ≡ pos u → b +ℤ pos y ≡ pos v → (a +ℤ b) +ℤ pos (x + y) ≡ pos (u + v)
both a b x y u v e f = omega (arith, ints)

pub weight_is : (has : ℕ → Bool) (steps : List Step)
    → set_weight has steps +ℤ pos (total (negatives steps has) (sizes steps))
    ≡ pos (total (positives steps has) (sizes steps))
weight_is has [] = refl
weight_is has (step ∷ steps) =
    both (cond (has 0) step.weight (pos 0)) (set_weight (λ i. has (suc i)) steps)
    (cond (has 0 && int_lt step.weight (pos 0)) (unsigned_abs step.weight) 0)
    (total (negatives steps (λ i. has (suc i))) (sizes steps))
    (cond (has 0 && not (int_lt step.weight (pos 0))) (unsigned_abs step.weight) 0)
    (total (positives steps (λ i. has (suc i))) (sizes steps))
    (head step.weight (has 0)) (weight_is (λ i. has (suc i)) steps)

pub weight-ge : (w : ℤ) (cost gain n : ℕ) → w +ℤ pos cost ≡ pos gain → cost + n ≤ gain → pos n ≤ℤ w
weight-ge w cost gain n e le = omega (arith, ints)

pub weight-lt : (w : ℤ) (cost gain most n : ℕ) → w +ℤ pos cost ≡ pos gain → gain ≤ cost + most → most < n → w <ℤ pos n
weight-lt w cost gain most n e le lt = omega (arith, ints)
