-- The lines of bytes as they are shown, and where names stand in bytes. Lines themselves are those of `def_format`.
use Rattle.std.specs.Prelude.{◌≡◌, ℕ, suc, Bool, true, false, not, ◌&&◌, ◌||◌, ◌==◌, if◌then◌else◌, List, [], ◌∷◌, ◌++◌, map, Option, Some, None}
use Rattle.std.specs.Char.{is_ascii_alphanumeric}
use Rattle.std.specs.List.{list_any}
use Rattle.def_format.specs.Lines.{Line, line, line_feed, has_line_feed, all_lines, numbered_from}
use Rattle.app_text.specs.declared.lines.Record.{Record}

-- the first line, without its LF, and the bytes after that LF, if there is one
abbrev pub IsCut : List ℕ → List ℕ → Option (List ℕ) → Type 0
IsCut bytes first None = (first ≡ bytes) × (has_line_feed bytes ≡ false)
IsCut bytes first (Some after) = (bytes ≡ first ++ line_feed ∷ after) × (has_line_feed first ≡ false)

-- a line as it is shown: without a CR at its end
abbrev pub without_cr : List ℕ → List ℕ
without_cr [] = []
without_cr (byte ∷ []) = if byte == 13 then [] else byte ∷ []
without_cr (byte ∷ next ∷ rest) = byte ∷ without_cr (next ∷ rest)

abbrev pub shown_line : Line → Line
shown_line l = line l.number (without_cr l.bytes)

-- the lines that aren't blank, as they are shown, of bytes whose first line has this number
abbrev pub records_from : ℕ → List ℕ → List Line
records_from number bytes = map shown_line (numbered_from number (all_lines bytes))

-- the records of a stream: the first one stands at 0
abbrev pub records : List ℕ → List Line
records bytes = records_from 1 bytes

abbrev pub record_view : Record → Line
record_view found = line found.line found.bytes.now

-- the record is the first of these, and what comes after its line has the others
pub record IsFirstRecord (all : List Line) (found : Record) : Type 0 where
  pub first_and_others : all ≡ record_view found ∷ records_from (suc found.line) found.after.now

-- ---- places of names

-- a name as a JSON text without escapes
abbrev pub quoted : List ℕ → List ℕ
quoted name = 34 ∷ (name ++ 34 ∷ [])

abbrev pub begins_with : List ℕ → List ℕ → Bool
begins_with [] bytes = true
begins_with (x ∷ text) [] = false
begins_with (x ∷ text) (byte ∷ bytes) = x == byte && begins_with text bytes

-- where the text stands in the bytes, of which the first stands at this place
abbrev pub places_from : ℕ → List ℕ → List ℕ → List ℕ
places_from place text [] = []
places_from place text (byte ∷ rest) =
    let others = places_from (suc place) text rest in
    if begins_with text (byte ∷ rest) then place ∷ others else others

-- a letter, a digit, `_` or `-`
abbrev pub is_plain_byte : ℕ → Bool
is_plain_byte byte = is_ascii_alphanumeric byte || byte == 95 || byte == 45

-- a name that begins with one stands between two quotes only if it is a JSON text, if the bytes have no escapes
abbrev pub is_plain_name : List ℕ → Bool
is_plain_name [] = false
is_plain_name (byte ∷ rest) = is_plain_byte byte

-- the places at which the name surely stands
abbrev pub sure_places : List ℕ → List ℕ → List ℕ
sure_places name bytes =
    if is_plain_name name && not (list_any (λ byte. byte == 92) bytes) then places_from 0 (quoted name) bytes else []

-- the last one, or else this one
abbrev pub last_or : ℕ → List ℕ → ℕ
last_or place [] = place
last_or place (next ∷ others) = last_or next others

-- the place, if there is one alone
abbrev pub only_place : List ℕ → Option ℕ
only_place [] = None
only_place (place ∷ []) = Some place
only_place (place ∷ next ∷ others) = None
