-- Runs and cuts by the key of their prefix, which is seen as a number.
use Rattle.std.specs.Prelude.{ℕ, List, map}
use Rattle.walk_runs.specs.declared.kept_birth.KeptBirth.{KeptBirth}

-- A run: the key of its prefix, the least and the greatest count of the last process but one, and the sum of the last
-- two counts.
pub record KeyedRun : Type 0 where
  pub key : ℕ
  pub lo : ℕ
  pub hi : ℕ
  pub rest : ℕ

-- a cut: the key of its prefix, and its last two counts
pub record KeyedCut : Type 0 where
  pub key : ℕ
  pub x : ℕ
  pub y : ℕ

-- a birth: its cut as a number, and the process whose event made that of a cut of the level before
pub record KeyedBirth : Type 0 where
  pub cut : ℕ
  pub by : ℕ

-- births as they are kept
abbrev pub birth_view : {A : Type 0} → (A → ℕ) → KeptBirth A → KeyedBirth
birth_view number born = record { cut = number born.cut; by = born.by }

abbrev pub births_view : {A : Type 0} → (A → ℕ) → List (KeptBirth A) → List KeyedBirth
births_view number births = map (birth_view number) births

abbrev pub cuts_of : List KeyedBirth → List ℕ
cuts_of births = map (λ (birth : KeyedBirth). birth.cut) births
