-- A text while it is written.
use Rattle.std.specs.Prelude.{◌≡◌, ℕ, Bool, true, List, ◌++◌}

-- what a text has, and whether that is all that was said, as it is until memory runs out
pub record Written : Type 0 where
  pub bytes : List ℕ
  pub is_whole : Bool

-- this is said after all that was said before, if the text is whole then
abbrev pub Says : List ℕ → (old new : Written) → Type 0
Says said old new = new.is_whole ≡ true → (old.is_whole ≡ true) × (new.bytes ≡ old.bytes ++ said)

-- the same of some bytes of which this holds
abbrev pub SaysSome : (List ℕ → Type 0) → (old new : Written) → Type 0
SaysSome P old new =
    new.is_whole ≡ true → (old.is_whole ≡ true) × ((said : List ℕ) × P said × (new.bytes ≡ old.bytes ++ said))
