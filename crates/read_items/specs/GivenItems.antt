-- The items of a source, given one after another.
use Rattle.std.specs.Prelude.{◌≡◌, ◌<◌, ◌≤◌, ℕ, Bool, true, false, List, [], ◌∷◌, ◌++◌, length, map, Option, Some, None}
use Rattle.def_format.specs.Bundles.{onto_part}
use Rattle.def_format.specs.Limits.{bundle_byte_limit}
use Rattle.def_judgement.specs.Writes.{FailsAfter, IsWholeInput, Source}
use Rattle.read_items.specs.Items.{all_items, items_of_lines, with_line_feed}
use Rattle.read_lines.specs.GivenLines.{HasPart, State}
use Rattle.read_lines.specs.declared.line.Line.{Line}
use Rattle.read_lines.specs.declared.line.Line.TheVariants.{Long, Whole}

-- the item with these bytes: they are given, or they are too many
abbrev pub IsItem : Line → List ℕ → Type 0
IsItem (Whole bytes) item = (bytes.items ≡ item) × (length item ≤ bundle_byte_limit)
IsItem Long item = bundle_byte_limit < length item

-- these are the items of all bytes that a source gave to its end
pub record AreItems (input : Source) (items : List (List ℕ)) : Type 0 where
  pub bytes : List ℕ
  pub is_given : IsWholeInput input bytes
  pub are_items : all_items bytes ≡ items

-- bytes of an item that goes on, if there are any, before what the lines after them are
abbrev pub onto_item : List ℕ → List (List ℕ) → List (List ℕ)
onto_item [] items = items
onto_item (byte ∷ part) items = onto_part (byte ∷ part) items

-- A source that isn't at its end gave lines, each with its LF, that are these items, and then this part of an item that
-- goes on, whatever lines come next.
pub record HasItemPart (input : Source) (items : List (List ℕ)) (part : List ℕ) (left : Source) (held : List ℕ) :
    Type 0 where
  pub lines : List (List ℕ)
  pub has_lines : HasPart input lines [] left held
  pub are_items : (others : List (List ℕ)) → items_of_lines (map with_line_feed lines ++ others)
      ≡ items ++ onto_item part (items_of_lines others)

-- The items that a source gave so far. At its end they are all items.
abbrev pub HasItemsBy : Bool → (input : Source) → List (List ℕ) → (left : Source) (held : List ℕ) → Type 0
HasItemsBy false input items left held = HasItemPart input items [] left held
HasItemsBy true input items left held = AreItems input items

abbrev pub HasItems : (input : Source) → List (List ℕ) → State → Type 0
HasItems input items state = HasItemsBy state.ended input items state.left state.held

-- the items that a source gave so far, and then this one
pub record HasNext (input : Source) (items : List (List ℕ)) (line : Line) (state : State) : Type 0 where
  pub bytes : List ℕ
  pub is_item : IsItem line bytes
  pub has_items : HasItems input (items ++ bytes ∷ []) state

-- From any items that a source may have given so far, it gives the next one; or they were all, and it is at its end.
abbrev pub Gives : Option Line → (old new : State) → Type 0
Gives (Some line) old new =
    (input : Source) (items : List (List ℕ)) → HasItems input items old → HasNext input items line new
Gives None old new =
    (new.ended ≡ true) × ((input : Source) (items : List (List ℕ)) → HasItems input items old → AreItems input items)

-- A read failed of a source that gave these items. If one is known to fail, they are all but the one that goes on.
abbrev pub BreaksOff : (input : Source) → List (List ℕ) → Type 0
BreaksOff input items =
    FailsAfter input (λ bytes. (last : List (List ℕ)) × (all_items bytes ≡ items ++ last) × (length last ≤ 1))
