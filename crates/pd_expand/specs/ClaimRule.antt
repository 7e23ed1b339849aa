-- The rule of the word from which numbers are drawn.
use Rattle.std.specs.Prelude.{◌≡◌, ℕ, ◌+◌, ◌≤◌, eqb, ltb, leb, cond, List, [], ◌∷◌, ◌++◌, length, slice_index, sum_by, count_by}
use mathlib.Core.Option.{some}
use lib.ListN.{get_elem?}
use Rattle.atomic_table.specs.Table.{State, Step, Me}
use Rattle.pd_expand.specs.declared.view.View.{View}

abbrev pub view : ℕ → List ℕ → View
view workers drawn = record { workers = workers; drawn = drawn }

-- how often x stands in the list
abbrev pub times : ℕ → List ℕ → ℕ
times x xs = count_by (λ y. eqb y x) xs

-- how many numbers of the list are past the last block's
abbrev pub past : ℕ → List ℕ → ℕ
past blocks xs = count_by (λ y. leb blocks y) xs

-- 1 if x is below n, and else 0
abbrev pub once_below : ℕ → ℕ → ℕ
once_below x n = cond (ltb x n) 1 0

-- a seat draws at most one number past the blocks for each worker, and nothing if it stands for no worker
abbrev pub IsFair : ℕ → View → Type 0
IsFair blocks v = (past blocks v.drawn ≤ v.workers) × (v.workers ≡ 0 → v.drawn ≡ [])

-- The seats together stand for all workers, and hold each number below the word once and no other.
pub record Kept {S : Type 0} (blocks workers : ℕ) (s : State S View) : Type 0 where
  pub wide : length s.words ≡ 1
  pub all_workers : sum_by (λ v. v.workers) s.views ≡ workers
  pub once : (x : ℕ) → sum_by (λ v. times x v.drawn) s.views ≡ once_below x (slice_index s.words 0)
  pub bounded : slice_index s.words 0 ≤ blocks + sum_by (λ v. past blocks v.drawn) s.views
  pub fair : (seat : ℕ) (v : View) → get_elem? s.views seat ≡ some v → IsFair blocks v

-- the number that was found goes to the end of the seat's list
abbrev pub Draws : {S : Type 0} → Step S → Me S View → ℕ → Me S View → Type 0
Draws st m found n = n ≡ (view m.0.workers (m.0.drawn ++ found ∷ []), m.1)
