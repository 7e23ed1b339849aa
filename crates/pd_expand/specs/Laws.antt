-- What holds of the blocks of each level.
use Rattle.std.specs.Prelude.{◌≡◌, ℕ, ◌<◌, List, length}
use Rattle.def_model.specs.Answers.{LexBelow}
use Rattle.def_model.specs.Cuts.{IsNextOf}
use Rattle.def_model.specs.Events.{Computation, Linked}
use Rattle.pd_expand.specs.Parts.{AreBlocksOf, IsInBlock}

-- each cut of the next level lies in a block
abbrev pub EachInABlock : Type 0
EachInABlock =
    (c : Computation) (cuts : List (List ℕ)) (blocks : ℕ) (cut : List ℕ) → AreBlocksOf blocks (length cuts)
    → IsNextOf c cuts cut → (block : ℕ) × (block < blocks) × IsInBlock block cuts cut

-- and in no other one
abbrev pub InOneBlock : Type 0
InOneBlock =
    (cuts : List (List ℕ)) (blocks : ℕ) (cut : List ℕ) (a b : ℕ) → Linked LexBelow cuts
    → AreBlocksOf blocks (length cuts) → a < blocks → b < blocks → IsInBlock a cuts cut → IsInBlock b cuts cut
    → a ≡ b
