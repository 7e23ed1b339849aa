-- Closed sets of steps, and the first key at which one of them reaches a target. A set is a test of places in the list.
use Rattle.std.specs.Prelude.{ℕ, suc, ◌<◌, ◌≤◌, Bool, IsTrue, cond, List, [], ◌∷◌, ℤ, pos, ◌+ℤ◌, ◌<ℤ◌, ◌≤ℤ◌, length}
use Rattle.wide_flow.specs.declared.step.Step.{Step}
use Rattle.wide_flow.specs.Steps.{IsPast, step_at}

-- with each of its steps the set has those in the step's past
abbrev pub IsClosed : List Step → (ℕ → Bool) → Type 0
IsClosed steps set = (f e : ℕ) → f < length steps → e < length steps → IsPast steps f e → IsTrue (set e)
    → IsTrue (set f)

-- what the steps of a set add to the sum together
abbrev pub set_weight : (ℕ → Bool) → List Step → ℤ
set_weight set [] = pos 0
set_weight set (step ∷ steps) = cond (set 0) step.weight (pos 0) +ℤ set_weight (λ i. set (suc i)) steps

-- each step of the set has this key or a lesser one
abbrev pub HasKeysUpTo : List Step → ℕ → (ℕ → Bool) → Type 0
HasKeysUpTo steps key set = (e : ℕ) → e < length steps → IsTrue (set e) → (step_at steps e).key ≤ key

-- each step of the set has a lesser key than this one
abbrev pub HasKeysBelow : List Step → ℕ → (ℕ → Bool) → Type 0
HasKeysBelow steps key set = (e : ℕ) → e < length steps → IsTrue (set e) → (step_at steps e).key < key

-- a closed set of steps with keys up to this one reaches the target, and none of steps with lesser keys does
pub record IsFirstKey (steps : List Step) (target key : ℕ) : Type 0 where
  pub some : (set : ℕ → Bool) × IsClosed steps set × HasKeysUpTo steps key set × (pos target ≤ℤ set_weight set steps)
  pub none_before : (set : ℕ → Bool) → IsClosed steps set → HasKeysBelow steps key set
      → set_weight set steps <ℤ pos target

-- no closed set reaches the target
abbrev pub HasNoKey : List Step → ℕ → Type 0
HasNoKey steps target = (set : ℕ → Bool) → IsClosed steps set → set_weight set steps <ℤ pos target
