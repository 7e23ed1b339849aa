-- The file of a stream, by its lines.
use Rattle.std.proofs.Common.{◌≡◌, ◌∙◌, ℕ, List, [], ◌∷◌, ◌++◌, ap, ap₂, map, refl, sym}
use Rattle.std.proofs.lemmas.List.{map-append}
use Rattle.std.specs.Cow.{cow_slice_items}
use Rattle.def_format.specs.Lines as formats
use Rattle.def_format.specs.Lines.{finished_lines, open_lines}
use Rattle.pd_frames.specs.Views.{line_view, lines_view}
use Rattle.pd_frames.specs.declared.line.Line.{Line}
use Rattle.judge_explore.specs.Sources.{StreamFile, file_of_lines}

numbers_seen : (lines : List Line) → map (λ (line : Line). line.number) lines
    ≡ map (λ (line : formats.Line). line.number) (lines_view lines)
numbers_seen [] = refl
numbers_seen (line ∷ lines) = ap (λ (numbers : List ℕ). line.number ∷ numbers) (numbers_seen lines)

abbrev made : List ℕ → List ℕ → List ℕ → StreamFile
made name join lines = record { name = name; join = join; lines = lines }

-- the file that has some line
pub file_seen : (name : List ℕ) (lines later : List Line) (first : Line) (join numbers : List ℕ)
    → lines ≡ first ∷ later → join ≡ cow_slice_items first.bytes
    → numbers ≡ map (λ (line : Line). line.number) later
    → made name join numbers ≡ file_of_lines name (lines_view lines)
file_seen name lines later first join numbers parts same_join same_numbers =
    ap₂ (made name) same_join (same_numbers ∙ numbers_seen later)
    ∙ sym (ap (λ (all : List Line). file_of_lines name (lines_view all)) parts)

-- the lines that a framer gives of all bytes at once, and at their end
pub all_lines_seen : (bytes : List ℕ) (all fed ended : List Line) → all ≡ fed ++ ended
    → open_lines bytes ≡ lines_view fed → finished_lines bytes ≡ open_lines bytes ++ lines_view ended
    → lines_view all ≡ finished_lines bytes
all_lines_seen bytes all fed ended parts first last =
    ap lines_view parts
    ∙ map-append line_view fed ended
    ∙ ap (λ (lines : List formats.Line). lines ++ lines_view ended) (sym first)
    ∙ sym last
