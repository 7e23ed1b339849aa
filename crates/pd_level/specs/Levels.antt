-- What a level stands for.
use Rattle.std.specs.Prelude.{ℕ, ◌<◌, ◌≤◌, ◌⊎◌, Bool, false, true, List, [], ◌∷◌, Contains, cond, length, map, slice_index_or}
use Rattle.std.specs.Bool.{MatchBool, beq}
use Rattle.pd_level.specs.declared.keys.Keys.{Keys}
use Rattle.pd_level.specs.declared.keys.Keys.TheVariants as kind
use Rattle.walk_keys.specs.Pairs.{single_limit}
use Rattle.def_format.specs.Limits.{process_limit}
use Rattle.walk_keys.specs.Keys.{AreKeys, digits}
use Rattle.def_model.specs.Answers.{LexBelow}

-- the number of a level, from 0, and its cuts as counts
pub record Levelled : Type 0 where
  pub number : ℕ
  pub cuts : List (List ℕ)

-- the numbers of the keys
abbrev pub numbers : Keys → List ℕ
numbers (kind.Single keys) = keys
numbers (kind.Pairs keys) = keys

-- whether each key is one number
abbrev pub is_single : Keys → Bool
is_single (kind.Single keys) = true
is_single (kind.Pairs keys) = false

-- keys of one number each are for as many processes as have room in it, and pairs for more
abbrev pub FitsKind : ℕ → Bool → Type 0
FitsKind processes single = MatchBool single (processes ≤ single_limit) (single_limit < processes)

-- if there is a key, the keys are of the kind for this many processes
abbrev pub HasRoom : ℕ → Keys → Type 0
HasRoom processes keys = 0 < length (numbers keys) → FitsKind processes (is_single keys)

-- the cuts of these keys
abbrev pub cuts_of : ℕ → List ℕ → List (List ℕ)
cuts_of processes keys = map (λ key. digits processes key) keys

-- ascending keys, of no more counts than there may be processes
pub record IsKept (processes : ℕ) (keys : List ℕ) : Type 0 where
  pub few : processes ≤ process_limit
  pub are_keys : AreKeys processes keys

-- the cut stands in one of two lists, or in both
abbrev pub IsInEither : List (List ℕ) → List (List ℕ) → List ℕ → Type 0
IsInEither first last cut = Contains first cut ⊎ Contains last cut

-- those of the elements whose mark is the one that is wanted
abbrev pub kept_by : {A : Type 0} → Bool → List Bool → List A → List A
kept_by wanted [] xs = []
kept_by wanted (mark ∷ marks) [] = []
kept_by wanted (mark ∷ marks) (x ∷ xs) =
    cond (beq mark wanted) (x ∷ kept_by wanted marks xs) (kept_by wanted marks xs)

-- The cut lies between two of the list, each given by its index: not before the first one, and before the last one. The
-- first one of index 0 is no bound, and neither is a last one past the end.
abbrev pub IsBetween : List (List ℕ) → ℕ → ℕ → List ℕ → Type 0
IsBetween cuts from to cut =
    (0 < from → ¬ LexBelow cut (slice_index_or cuts from []))
    × (to < length cuts → LexBelow cut (slice_index_or cuts to []))
