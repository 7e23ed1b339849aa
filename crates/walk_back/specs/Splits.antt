-- What is kept of a predicate for which Possibly is answered, when all levels below some number have been looked at.
-- `test` says whether a cut satisfies.
use Rattle.std.specs.Prelude.{◌≡◌, ℕ, ◌+◌, ◌*◌, ◌<◌, ◌≤◌, Bool, List, length, slice_index_or}
use Rattle.def_model.specs.Answers.{IsPossiblyAnswer}
use Rattle.def_model.specs.Events.{Computation}
use Rattle.def_model.specs.Walks.{IsAvoidedBelow, IsNarrowlyAvoidedBelow, NoneBelow}
use Rattle.walk_back.specs.Counts.{others}
use Rattle.walk_back.specs.Ways.{AreAvoidingLevels, IsWithinGap, last_number}
use Rattle.pd_level.specs.Levels.{Levelled}
use Rattle.walk_back.specs.Answers.{possibly_answer_view}
use Rattle.walk_back.specs.declared.split.Split.{Split}

-- Of the levels below k those of the avoiding cuts are kept whose number is the first one's or comes a gap after that
-- of the one before it.
pub record AreKeptBelow (c : Computation) (test : List ℕ → Bool) (first gap k : ℕ)
    (levels : List Levelled) : Type 0 where
  pub lists : AreAvoidingLevels c test levels
  pub begins : (d : Levelled) → 0 < length levels → (slice_index_or levels 0 d).number ≡ first
  pub steps : (i : ℕ) (d : Levelled) → i + 1 < length levels
      → IsWithinGap gap (slice_index_or levels i d) (slice_index_or levels (i + 1) d)
  pub near : 0 < length levels → (last_number levels < k) × (k ≤ last_number levels + gap)
  pub count : 0 < length levels → length levels * gap + first ≡ last_number levels + gap
  pub none : length levels ≡ 0 → k ≡ first

-- Possibly is answered, and each level below k has avoiding cuts, no more than the width. So few levels were held at
-- once, and so few are beside those that are kept.
pub record IsSplitBelow (c : Computation) (test : List ℕ → Bool) (width gap k : ℕ) (split : Split) : Type 0 where
  pub possibly : IsPossiblyAnswer c test width (possibly_answer_view split.possibly)
  pub none : NoneBelow c test split.first
  pub narrow : IsNarrowlyAvoidedBelow c test width k
  pub avoided : IsAvoidedBelow c test k
  pub kept : AreKeptBelow c test split.first gap k split.held.levels.items
  pub few : split.held.most ≤ gap + 3
  pub beside : others split.held ≤ 2

-- up to this level so many were held at once: two at least above level 0
pub record AreHeld (number most : ℕ) : Type 0 where
  pub some : 1 ≤ most
  pub two : 0 < number → 2 ≤ most
