-- How many bytes a row has, of what was looked at so far.
use Rattle.std.proofs.Common.{◌≡◌, ℕ, suc, ◌+◌, ◌<◌, ◌≤◌, ◌⊎◌, inl, inr, ⊎_elim, Bool, true, false, List, [], ◌∷◌, ◌++◌, length, get_or, take, drop, refl, sym, ap, subst, ◌∙◌, arith, length-drop, append_assoc, if◌then◌else◌, Some, None}
use Rattle.std.proofs.lemmas.Bool.{cases_eq}
use Rattle.app_text.specs.Rows.{IsRowLength, without_space, AreRows, RowAndMore, row_break, first_columns, later_columns, IsShownSo, IsInRows, LastLine, LineAndMore}
use Rattle.def_format.specs.Lines.{has_line_feed}
use Rattle.app_text.specs.Lines.{IsCut}
use Rattle.std.specs.Prelude.{◌==◌}

-- no space was found after the first byte
pub record NoneSoFar (columns : ℕ) (line : List ℕ) (index count : ℕ) : Type 0 where
  pub full : count ≡ columns
  pub no_space : (place : ℕ) → 1 ≤ place → place < index → get_or line place 0 ≡ 32 → ⊥

-- the last space that was found stands there
pub record SpaceSoFar (columns : ℕ) (line : List ℕ) (index count : ℕ) : Type 0 where
  pub has_bytes : 0 < count
  pub fits : count ≤ columns
  pub space : get_or line count 0 ≡ 32
  pub last : (place : ℕ) → count + 1 ≤ place → place < index → get_or line place 0 ≡ 32 → ⊥

abbrev pub IsRowSoFar : ℕ → List ℕ → ℕ → ℕ → Type 0
IsRowSoFar columns line index count = NoneSoFar columns line index count ⊎ SpaceSoFar columns line index count

pub row_begins : (columns : ℕ) (line : List ℕ) → IsRowSoFar columns line 0 columns
row_begins columns line = inl (record { full = refl; no_space = λ place low high. absurd (omega arith) })

pub space_found : (columns : ℕ) (line : List ℕ) (index : ℕ) → 0 < index → index ≤ columns → get_or line index 0 ≡ 32
    → IsRowSoFar columns line (index + 1) index
space_found columns line index some fits space =
    inr (record { has_bytes = some; fits = fits; space = space; last = λ place low high. absurd (omega arith) })

further : (line : List ℕ) (from index : ℕ) → ((place : ℕ) → from ≤ place → place < index → get_or line place 0 ≡ 32 → ⊥)
    → (from ≤ index → get_or line index 0 ≡ 32 → ⊥)
    → (place : ℕ) → from ≤ place → place < index + 1 → get_or line place 0 ≡ 32 → ⊥
further line from index below here place low high space =
    ⊎_elim (λ same. here (omega arith) (subst (λ (p : ℕ). get_or line p 0 ≡ 32) same space))
    (λ other. below place low (omega arith) space) (cases_eq place index)

pub no_space_there : (columns : ℕ) (line : List ℕ) (index count : ℕ) → IsRowSoFar columns line index count
    → (0 < index → get_or line index 0 ≡ 32 → ⊥) → IsRowSoFar columns line (index + 1) count
no_space_there columns line index count (inl none) here =
    inl (record { full = none.full; no_space = further line 1 index none.no_space (λ some. here (omega arith)) })
no_space_there columns line index count (inr found) here =
    inr (record {
      has_bytes = found.has_bytes;
      fits = found.fits;
      space = found.space;
      last = further line (count + 1) index found.last (λ some. here (omega (arith, found.has_bytes)));
    })

pub row_ends : (columns : ℕ) (line : List ℕ) (index count : ℕ) → IsRowSoFar columns line index count → columns < index
    → IsRowLength columns line count
row_ends columns line index count (inl none) past =
    inr (record { full = none.full; no_space = λ place low high. none.no_space place low (omega arith) })
row_ends columns line index count (inr found) past =
    inl (record {
      has_bytes = found.has_bytes;
      fits = found.fits;
      space = found.space;
      last = λ place low high. found.last place low (omega arith);
    })

-- ---- rows of a line

pub fits_in_row : (columns : ℕ) (line : List ℕ) (count : ℕ) → IsRowLength columns line count → count ≤ columns
fits_in_row columns line count (inl ends) = ends.fits
fits_in_row columns line count (inr ends) = omega (arith, ends.full)

pub has_bytes : (columns : ℕ) (line : List ℕ) (count : ℕ) → 0 < columns → IsRowLength columns line count → 0 < count
has_bytes columns line count some (inl ends) = ends.has_bytes
has_bytes columns line count some (inr ends) = omega (arith, ends.full)

shorter_yet : (bytes : List ℕ) → length (without_space bytes) ≤ length bytes
shorter_yet [] = omega arith
shorter_yet (byte ∷ rest) = go (byte == 32)
  where
    go : (b : Bool) → length (if b then rest else byte ∷ rest) ≤ suc (length rest)
    go true = omega arith
    go false = omega arith

-- a row makes what remains shorter
pub less_remains : (line : List ℕ) (count : ℕ) → 0 < count → 0 < length line
    → length (without_space (drop count line)) < length line
less_remains line count some long = omega (arith, shorter_yet (drop count line), length-drop count line)

joined_row : (out row mid new text : List ℕ) → mid ≡ out ++ row → new ≡ mid ++ row_break
    → new ++ text ≡ out ++ (row ++ row_break ++ text)
joined_row out row mid new text em en = rw (en, em) (simp append_assoc)

-- a row, and then what follows it
pub rows_go_on : (line initial out mid new rest row after next : List ℕ) (columns count : ℕ)
    → ((text : List ℕ) → AreRows columns rest text → (all : List ℕ) × AreRows first_columns line all
    × (out ++ text ≡ initial ++ all))
    → columns < length rest → IsRowLength columns rest count → row ≡ take count rest → after ≡ drop count rest
    → next ≡ without_space after → mid ≡ out ++ row → new ≡ mid ++ row_break
    → (text : List ℕ) → AreRows later_columns next text → (all : List ℕ) × AreRows first_columns line all
    × (new ++ text ≡ initial ++ all)
rows_go_on line initial out mid new rest row after next columns count kept long is er ea enext em en text more =
    let more_here : AreRows later_columns (without_space (drop count rest)) text =
    subst (λ (ys : List ℕ). AreRows later_columns ys text) (enext ∙ ap without_space ea) more in
    let all = kept (take count rest ++ row_break ++ text) (RowAndMore columns count rest text long is more_here) in
    (all.0, all.1, joined_row out (take count rest) mid new text (em ∙ ap (λ ys. out ++ ys) er) en ∙ all.2)

-- ---- lines of a text

joined_line : (out shown rows mid new : List ℕ) → mid ≡ out ++ shown → new ≡ mid ++ 10 ∷ []
    → out ++ (shown ++ 10 ∷ rows) ≡ new ++ rows
joined_line out shown rows mid new em en = rw (en, em) (simp append_assoc)

pub lines_go_on : (text out mid new rest line after : List ℕ)
    → ((rows : List ℕ) → IsInRows rest rows → IsInRows text (out ++ rows)) → IsCut rest line (Some after)
    → (shown : List ℕ) × IsShownSo line shown × (mid ≡ out ++ shown) → new ≡ mid ++ 10 ∷ []
    → (rows : List ℕ) → IsInRows after rows → IsInRows text (new ++ rows)
lines_go_on text out mid new rest line after kept cut pushed en rows more =
    let shown = pushed.0 in
    let here : IsInRows rest (shown ++ 10 ∷ rows) =
    subst (λ (ys : List ℕ). IsInRows ys (shown ++ 10 ∷ rows)) (sym cut.0)
    (LineAndMore line shown after rows cut.1 pushed.1 more) in
    subst (λ (ys : List ℕ). IsInRows text ys) (joined_line out shown rows mid new pushed.2 en)
    (kept (shown ++ 10 ∷ rows) here)

pub lines_end : (text out new rest line : List ℕ)
    → ((rows : List ℕ) → IsInRows rest rows → IsInRows text (out ++ rows)) → IsCut rest line None
    → (shown : List ℕ) × IsShownSo line shown × (new ≡ out ++ shown) → IsInRows text new
lines_end text out new rest line kept cut pushed =
    let shown = pushed.0 in
    let here : IsInRows rest shown =
    subst (λ (ys : List ℕ). IsInRows ys shown) cut.0 (LastLine line shown (ap has_line_feed cut.0 ∙ cut.1) pushed.1) in
    subst (λ (ys : List ℕ). IsInRows text ys) (sym pushed.2) (kept shown here)
