-- The text of a snapshot with one row more.
use Rattle.std.proofs.Common.{◌≡◌, ℕ, suc, ◌+◌, ◌<◌, List, [], ◌∷◌, ◌++◌, length, get_or, take, sym, ap, ◌∙◌, append-nil, append_assoc, arith}
use Rattle.std.proofs.lemmas.List.{length-map, length-take-le, map-append, take_more}
use Rattle.std.proofs.lemmas.Grind.{flat_map-append}
use Rattle.def_format.specs.Histories.{Row}
use Rattle.def_format.specs.Lines.{line_feed}
use Rattle.def_format.specs.Names.{ProcessNames}
use Rattle.def_format.specs.OtherTexts.{row_line, row_lines, snapshot_text}
use Rattle.def_format.specs.Reports.{text_of_lines}
use Rattle.pd_register.specs.Views.{row_view, rows_view}
use Rattle.pd_register.specs.declared.row.Row.{Row as Shown}

lines_more : (names : List ProcessNames) (first number : ℕ) (rows : List Row) (row : Row) → number ≡ first + length rows
    → row_lines names first (rows ++ row ∷ []) ≡ row_lines names first rows ++ row_line names number row ∷ []
lines_more names first number [] row e =
    let same : first ≡ number = omega (arith, e) in ap (λ (n : ℕ). row_line names n row ∷ []) same
lines_more names first number (x ∷ rows) row e =
    ap (λ (lines : List (List ℕ)). row_line names first x ∷ lines)
    (lines_more names (suc first) number rows row (omega (arith, e)))

text_more : (names : List ProcessNames) (number : ℕ) (rows : List Row) (row : Row) → number ≡ length rows + 1
    → snapshot_text names (rows ++ row ∷ []) ≡ snapshot_text names rows
    ++ (row_line names number row ++ line_feed ∷ [])
text_more names number rows row e =
    ap text_of_lines (lines_more names 1 number rows row (omega (arith, e)))
    ∙ (flat_map-append (λ line. line ++ line_feed ∷ []) (row_lines names 1 rows) (row_line names number row ∷ [])
    ∙ ap (λ (rest : List ℕ). snapshot_text names rows ++ rest) (append-nil (row_line names number row
    ++ line_feed ∷ [])))

pub row_more : (names : List ProcessNames) (old mid new : List ℕ) (rows : List Shown) (i : ℕ) (d : Shown)
    → i < length rows → mid ≡ old ++ snapshot_text names (rows_view (take i rows))
    → new ≡ mid ++ (row_line names (i + 1) (row_view (get_or rows i d)) ++ line_feed ∷ [])
    → new ≡ old ++ snapshot_text names (rows_view (take (i + 1) rows))
row_more names old mid new rows i d lt before here =
    let line : List ℕ = row_line names (i + 1) (row_view (get_or rows i d)) ++ line_feed ∷ [] in
    let more : rows_view (take (i + 1) rows) ≡ rows_view (take i rows) ++ row_view (get_or rows i d) ∷ [] =
    ap rows_view (take_more rows i d lt) ∙ map-append row_view (take i rows) (get_or rows i d ∷ []) in
    let count : i + 1 ≡ length (rows_view (take i rows)) + 1 =
    omega (arith, length-map (take i rows) row_view, length-take-le i rows (omega (arith, lt))) in
    let texts : snapshot_text names (rows_view (take (i + 1) rows))
    ≡ snapshot_text names (rows_view (take i rows)) ++ line =
    ap (snapshot_text names) more ∙ text_more names (i + 1) (rows_view (take i rows)) (row_view (get_or rows i d)) count
    in
    here ∙ (ap (λ (out : List ℕ). out ++ line) before
    ∙ (append_assoc old (snapshot_text names (rows_view (take i rows))) line
    ∙ ap (λ (rest : List ℕ). old ++ rest) (sym texts)))
