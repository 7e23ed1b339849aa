-- The items of an input: what stands between the lines that divide it.
use Rattle.std.specs.Prelude.{ℕ, Bool, true, false, if◌then◌else◌, List, [], ◌∷◌, ◌++◌, codes}
use Rattle.def_format.specs.Bundles.{onto_part, whole_lines}
use Rattle.def_format.specs.Lines.{line_feed}
use Rattle.def_format.specs.Lists.{is_one_of}

-- three equals signs, with a CR after them or none, and with its LF or, at the end, none
abbrev pub is_divider : List ℕ → Bool
is_divider line = is_one_of (codes "===" ∷ codes "===\r" ∷ codes "===\n" ∷ codes "===\r\n" ∷ []) line

-- The bytes between two lines that divide. After a last line that divides no item begins, and no lines are no item.
abbrev pub items_of_lines : List (List ℕ) → List (List ℕ)
items_of_lines [] = []
items_of_lines (line ∷ others) = if is_divider line then [] ∷ items_of_lines others else
    onto_part line (items_of_lines others)

-- the items of bytes after which nothing comes
abbrev pub all_items : List ℕ → List (List ℕ)
all_items bytes = items_of_lines (whole_lines bytes)

-- ---- lines with their LFs

abbrev pub with_line_feed : List ℕ → List ℕ
with_line_feed line = line ++ line_feed ∷ []

-- a line with the LF that ends it, or the last one without
abbrev pub whole_line : (has_feed : Bool) → List ℕ → List ℕ
whole_line true line = with_line_feed line
whole_line false line = line
