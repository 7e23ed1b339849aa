-- The lines of a text in rows of 80 columns at most. A line is broken in place of a space, or within a word.
use Rattle.std.specs.Prelude.{◌≡◌, ◌≢◌, ℕ, ◌+◌, ◌<◌, ◌≤◌, Bool, false, ◌==◌, nat_eq, if◌then◌else◌, List, [], ◌∷◌, ◌++◌, ◌⊎◌, length, drop, take, slice_index}
use Rattle.std.specs.Bool.{MatchBool}
use Rattle.std.specs.List.{starts_with}
use Rattle.def_format.specs.Lines.{line_feed, has_line_feed}

-- how many bytes the first row of a line has at most, and each other one, which begins with two spaces
abbrev pub first_columns : ℕ
first_columns = 80

abbrev pub later_columns : ℕ
later_columns = 78

-- what stands between two rows of a line
abbrev pub row_break : List ℕ
row_break = 10 ∷ 32 ∷ 32 ∷ []

-- a line that shows a part of a file begins with four spaces
abbrev pub shows_file : List ℕ → Bool
shows_file line = starts_with nat_eq line (32 ∷ 32 ∷ 32 ∷ 32 ∷ [])

abbrev pub HasNoSpace : List ℕ → ℕ → ℕ → Type 0
HasNoSpace line from to = (place : ℕ) → from ≤ place → place ≤ to → slice_index line place ≢ 32

-- the row of this length ends before a space, and no later space could end it
pub record EndsBeforeSpace (columns : ℕ) (line : List ℕ) (count : ℕ) : Type 0 where
  pub has_bytes : 0 < count
  pub fits : count ≤ columns
  pub space : slice_index line count ≡ 32
  pub last : HasNoSpace line (count + 1) columns

-- the row is as long as it may be, since no space could end it
pub record EndsInWord (columns : ℕ) (line : List ℕ) (count : ℕ) : Type 0 where
  pub full : count ≡ columns
  pub no_space : HasNoSpace line 1 columns

-- how many of the first bytes of a line that is too long stand in its first row
abbrev pub IsRowLength : ℕ → List ℕ → ℕ → Type 0
IsRowLength columns line count = EndsBeforeSpace columns line count ⊎ EndsInWord columns line count

-- what comes after a row, without the space that the break stands in place of
abbrev pub without_space : List ℕ → List ℕ
without_space [] = []
without_space (byte ∷ rest) = if byte == 32 then rest else byte ∷ rest

-- the text is the line in rows, of which the first has at most this many bytes
pub data AreRows : ℕ → List ℕ → List ℕ → Type 0 where
  LastRow : (columns : ℕ) (line : List ℕ) → length line ≤ columns → AreRows columns line line
  RowAndMore : (columns count : ℕ) (line text : List ℕ) → columns < length line → IsRowLength columns line count
      → AreRows later_columns (without_space (drop count line)) text
      → AreRows columns line (take count line ++ row_break ++ text)

-- the text is the line as it is shown in rows
abbrev pub IsShownSo : List ℕ → List ℕ → Type 0
IsShownSo line text = MatchBool (shows_file line) (text ≡ line) (AreRows first_columns line text)

-- the text is the other with each line in rows
pub data IsInRows : List ℕ → List ℕ → Type 0 where
  LastLine : (line text : List ℕ) → has_line_feed line ≡ false → IsShownSo line text → IsInRows line text
  LineAndMore : (line text others rows : List ℕ) → has_line_feed line ≡ false → IsShownSo line text
      → IsInRows others rows → IsInRows (line ++ line_feed ∷ others) (text ++ line_feed ∷ rows)

-- the text in rows, or as it is
abbrev pub AreRowsOrText : List ℕ → List ℕ → Type 0
AreRowsOrText text shown = IsInRows text shown ⊎ (shown ≡ text)
