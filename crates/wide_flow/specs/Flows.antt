-- What positive steps take from negative steps in their pasts.
use Rattle.std.specs.Prelude.{◌≡◌, ◌≢◌, ℕ, suc, ◌+◌, ◌<◌, ◌≤◌, Bool, false, cond, IsTrue, List, [], ◌∷◌, length, slice_index, slice_index_or, sum_by}
use Rattle.wide_flow.specs.declared.step.Step.{Step}
use Rattle.wide_flow.specs.declared.takes.Take.{Take}
use Rattle.wide_flow.specs.declared.takes.Flow.{Flow}
use Rattle.wide_flow.specs.Closed.{IsClosed}
use Rattle.wide_flow.specs.Steps.{IsNegative, IsPast, is_negative, sizes, step_at}

abbrev pub no_take : Take
no_take = record { taker = 0; payer = 0; amount = 0; before = 0 }

abbrev pub take_at : List Take → ℕ → Take
take_at takes i = slice_index_or takes i no_take

-- the sum of the numbers at the places of a set
abbrev pub total : (ℕ → Bool) → List ℕ → ℕ
total set [] = 0
total set (x ∷ xs) = cond (set 0) x 0 + total (λ i. set (suc i)) xs

-- what the members of a set take by this one, or pay
abbrev pub share : (ℕ → Bool) → Take → ℕ
share set take = cond (set take.taker) take.amount 0 + cond (set take.payer) take.amount 0

-- the taker may take from the payer
pub record CanTake (steps : List Step) (taker payer : ℕ) : Type 0 where
  pub taker_there : taker < length steps
  pub payer_there : payer < length steps
  pub positive : is_negative steps taker ≡ false
  pub negative : IsNegative steps payer
  pub past : IsPast steps payer taker

-- each payer's takes are linked, the last one first; places are counted from 1, and 0 says that there is none
pub record AreLinked (takes : List Take) (last : List ℕ) : Type 0 where
  pub last_in : (f : ℕ) → slice_index last f ≤ length takes
  pub last_own : (f i : ℕ) → slice_index last f ≡ suc i → (take_at takes i).payer ≡ f
  pub last_all : (f i : ℕ) → slice_index last f ≤ i → i < length takes → (take_at takes i).payer ≢ f
  pub before_in : (i : ℕ) → i < length takes → (take_at takes i).before ≤ i
  pub before_own : (i j : ℕ) → i < length takes → (take_at takes i).before ≡ suc j
      → (take_at takes j).payer ≡ (take_at takes i).payer
  pub before_all : (i j : ℕ) → i < length takes → (take_at takes i).before ≤ j → j < i
      → (take_at takes j).payer ≢ (take_at takes i).payer

-- the numbers of steps are one each, and each take may be, and is of something
pub record AreTakes (steps : List Step) (left : List ℕ) (takes : List Take) (last : List ℕ) : Type 0 where
  pub left_each : length left ≡ length steps
  pub last_each : length last ≡ length steps
  pub each : (i : ℕ) → i < length takes → CanTake steps (take_at takes i).taker (take_at takes i).payer
  pub some : (i : ℕ) → i < length takes → 0 < (take_at takes i).amount
  pub linked : AreLinked takes last

-- what each step has left, with what it takes or pays, makes up its size; but for step e, which takes an excess
pub record AreBalanced (steps : List Step) (left : List ℕ) (takes : List Take) (e excess : ℕ) : Type 0 where
  pub sums : (set : ℕ → Bool)
      → total set left + sum_by (share set) takes ≡ total set (sizes steps) + cond (set e) excess 0

pub record IsFlow (steps : List Step) (flow : Flow) (e excess : ℕ) : Type 0 where
  pub takes : AreTakes steps flow.left.items flow.takes.items flow.last.items
  pub balanced : AreBalanced steps flow.left.items flow.takes.items e excess

-- what the members of a set pay, members take
abbrev pub IsTakenInside : (ℕ → Bool) → List Take → Type 0
IsTakenInside set takes = (i : ℕ) → i < length takes → IsTrue (set (take_at takes i).payer)
    → IsTrue (set (take_at takes i).taker)

-- each take is of one of the first n steps
abbrev pub AreBelow : ℕ → List Take → Type 0
AreBelow n takes = (i : ℕ) → i < length takes → (take_at takes i).taker < n

-- A closed set whose negative members have nothing left and pay members alone. What the positive steps among the first
-- n have left, its members have; and each member's key is at most that of one of these n.
pub record IsFrozen (steps : List Step) (flow : Flow) (n : ℕ) (set : ℕ → Bool) : Type 0 where
  pub closed : IsClosed steps set
  pub full : (f : ℕ) → f < length steps → IsTrue (set f) → IsNegative steps f → slice_index flow.left.items f ≡ 0
  pub inside : IsTakenInside set flow.takes.items
  pub all_left : (e : ℕ) → e < n → is_negative steps e ≡ false → 0 < slice_index flow.left.items e → IsTrue (set e)
  pub keys : (e : ℕ) → e < length steps → IsTrue (set e)
      → (i : ℕ) × (i < n) × ((step_at steps e).key ≤ (step_at steps i).key)
