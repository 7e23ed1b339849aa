-- Blocks of a level, and the parts of the next level that come of them.
use Rattle.std.specs.Prelude.{◌≡◌, ℕ, ◌+◌, ◌*◌, ◌<◌, ◌≤◌, List, All, Contains, map, min}
use Rattle.def_model.specs.Answers.{IsListOf}
use Rattle.def_model.specs.Cuts.{IsConsistent, IsNextOf}
use Rattle.def_model.specs.Events.{Computation}
use Rattle.pd_level.specs.Levels.{IsBetween, Levelled}
use Rattle.pd_expand.specs.ClaimRule.{times}
use Rattle.pd_expand.specs.Limits.{block_length}
use Rattle.pd_expand.specs.declared.part.Part.{Part}

-- this many blocks hold this many cuts, and none of the blocks is empty
abbrev pub AreBlocksOf : ℕ → ℕ → Type 0
AreBlocksOf blocks cuts = (cuts ≤ block_length * blocks) × (block_length * blocks < cuts + block_length)

-- the cut lies from the first cut of a block on and before that of the next one
abbrev pub IsInBlock : ℕ → List (List ℕ) → List ℕ → Type 0
IsInBlock block cuts cut = IsBetween cuts (block_length * block) (block_length * block + block_length) cut

-- the number of the next level, which stays at the greatest of 64 bits
abbrev pub next_number : Levelled → ℕ
next_number level = min (level.number + 1) 18446744073709551615

-- the cuts of the next level that lie in the block
pub record IsPartOf (c : Computation) (level : Levelled) (part : Part) : Type 0 where
  pub list : IsListOf (λ cut. IsNextOf c level.cuts cut × IsInBlock part.block level.cuts cut) part.next.cuts
  pub number : part.next.number ≡ next_number level

-- Parts of the next level: each block has as many as its number was drawn times.
pub record ArePartsOf (c : Computation) (level : Levelled) (blocks : ℕ) (drawn : ℕ → ℕ) (parts : List Part) :
    Type 0 where
  pub are : All (IsPartOf c level) parts
  pub each : (block : ℕ) → block < blocks → times block (map (λ part. part.block) parts) ≡ drawn block

-- the cut stands in one of the parts
abbrev pub IsInPart : List Part → List ℕ → Type 0
IsInPart parts cut = (part : Part) × Contains parts part × Contains part.next.cuts cut

-- the cuts of all parts
pub record IsUnionOf (c : Computation) (level : Levelled) (parts : List Part) (next : Levelled) : Type 0 where
  pub list : IsListOf (IsInPart parts) next.cuts
  pub consistent : All (IsConsistent c) next.cuts
  pub number : next.number ≡ next_number level
