-- What is kept of the parts of a bundle.
use Rattle.std.specs.Prelude.{◌≡◌, ◌≤◌, ◌+◌, ℕ, List, [], ◌++◌, length, map}
use Rattle.def_format.specs.Limits.{stream_count_limit}
use Rattle.def_judgement.specs.Writes.{Source}
use Rattle.read_bundle.specs.Steps.{AreParts}
use Rattle.app_parts.specs.declared.parts.Part.{Part}

-- the bytes of each part
abbrev pub bytes_of : List Part → List (List ℕ)
bytes_of parts = map (λ (part : Part). part.bytes.items) parts

-- These are the parts of all that the source had left, which isn't too long: all of them, unless the streams among them
-- are more than a session may have. Then they are the first ones, and still too many.
pub record HoldsParts (input : Source) (parts : List (List ℕ)) : Type 0 where
  pub others : List (List ℕ)
  pub are_parts : AreParts input (parts ++ others)
  pub all : length parts ≤ stream_count_limit + 1 → others ≡ []
