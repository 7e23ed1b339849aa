-- What is kept of an item, and what a line does to it.
use Rattle.std.specs.Prelude.{◌≡◌, ◌<◌, ◌≤◌, ℕ, Bool, true, false, List, ◌++◌, length}
use Rattle.def_format.specs.Limits.{bundle_byte_limit}
use Rattle.read_items.specs.Items.{is_divider}
use Rattle.read_items.specs.declared.kept.Kept.{Kept}

-- the bytes that are kept of an item: all, unless they are too many
pub record IsKept (kept : Kept) (part : List ℕ) : Type 0 where
  pub same : kept.is_long ≡ false → (kept.bytes.items ≡ part) × (length part ≤ bundle_byte_limit)
  pub long : kept.is_long ≡ true → bundle_byte_limit < length part

-- the line divides items, or it was added to what is kept of one
abbrev pub TakesLine : (divides : Bool) → (old new : Kept) → (line : List ℕ) → Type 0
TakesLine true old new line = (is_divider line ≡ true) × (new ≡ old)
TakesLine false old new line =
    (is_divider line ≡ false) × ((part : List ℕ) → IsKept old part → IsKept new (part ++ line))
