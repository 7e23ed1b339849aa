-- What was read of files of notes.
use Rattle.std.proofs.Common.{◌≡◌, ◌∙◌, ◌≤◌, ◌<◌, ◌+◌, ℕ, suc, zero, List, [], ◌∷◌, ◌++◌, length, map, take, refl, sym, ap, subst, arith, Some, Option}
use Rattle.std.specs.Prelude.{All, IfSome}
use Rattle.std.specs.List.{AllZip, slice_index_or}
use Rattle.std.specs.Str.{IsUtf8}
use Rattle.std.proofs.lemmas.List.{map-append, take_all}
use Rattle.std.proofs.Math.Seq.{take-suc}
use Rattle.app_arguments.specs.Statuses.{File}
use Rattle.def_judgement.specs.Writes.{Source}
use Rattle.app_host.specs.FileSources.{Knows}
use Rattle.app_host.proofs.FilesRead.{zip_on}
use Rattle.judge_runs.specs.Views.{wish_view}
use Rattle.judge_runs.specs.declared.wish.Wish.{Wish}
use Rattle.app_explore.specs.Explorations.{IsNoteOf, IsNotesFile, notes_byte_limit, shown_wish}

-- one more file of notes
pub note_on : {N S : Type 0} (bytes_of : List ℕ → Option (List ℕ)) (name_of : N → List ℕ) (text_of : S → List ℕ)
    (names : List N) (notes : List S) (i : ℕ) (d : N) (note : S) → i < length names
    → AllZip (IsNoteOf bytes_of) (map name_of (take i names)) (map text_of notes)
    → IsNoteOf bytes_of (name_of (slice_index_or names i d)) (text_of note)
    → AllZip (IsNoteOf bytes_of) (map name_of (take (i + 1) names)) (map text_of (notes ++ note ∷ []))
note_on bytes_of name_of text_of names notes i d note lt all one =
    let names_are : map name_of (take (i + 1) names)
    ≡ map name_of (take i names) ++ name_of (slice_index_or names i d) ∷ [] =
    ap (λ n. map name_of (take n names)) (let next : i + 1 ≡ suc i = omega arith in next)
    ∙ (ap (map name_of) (take-suc names i d lt)
    ∙ map-append name_of (take i names) (slice_index_or names i d ∷ [])) in
    let notes_are : map text_of (notes ++ note ∷ []) ≡ map text_of notes ++ text_of note ∷ [] =
    map-append text_of notes (note ∷ []) in
    subst (λ xs. AllZip (IsNoteOf bytes_of) xs (map text_of (notes ++ note ∷ []))) (sym names_are)
    (subst (λ ys. AllZip (IsNoteOf bytes_of) (map name_of (take i names) ++ name_of (slice_index_or names i d) ∷ []) ys)
    (sym notes_are) (zip_on (IsNoteOf bytes_of) _ _ _ _ all one))

-- the files of these names are such
pub all_notes : {N : Type 0} (files : List ℕ → File) (name_of : N → List ℕ) (names : List N)
    → All IsNotesFile (map files (map name_of names)) → All (λ name. IsNotesFile (files (name_of name))) names
all_notes files name_of [] all = λ i d lt. absurd (omega (arith, lt))
all_notes files name_of (n ∷ names) all =
    go (all_notes files name_of names (λ i d lt. all (suc i) d (omega (arith, lt))))
  where
    go : All (λ name. IsNotesFile (files (name_of name))) names
        → All (λ name. IsNotesFile (files (name_of name))) (n ∷ names)
    go rest zero d lt = all 0 (files (name_of n)) (omega arith)
    go rest (suc i) d lt = rest i d (omega (arith, lt))

-- what was read of a file that surely holds notes is text, and not too long
pub read_whole : (file : File) (left : Source) (read : List ℕ) → IsNotesFile file → Knows file.source left
    → IfSome left.bytes (λ input. read ≡ take (notes_byte_limit + 1) input)
    → (length read ≤ notes_byte_limit) × IsUtf8 read
read_whole file left read notes knows prefix =
    let same : left.bytes ≡ Some notes.bytes =
    subst (λ (known : Option (List ℕ)). IfSome known (λ bytes. left.bytes ≡ Some bytes)) notes.known knows.bytes in
    let first : read ≡ take (notes_byte_limit + 1) notes.bytes =
    subst (λ (known : Option (List ℕ)). IfSome known (λ input. read ≡ take (notes_byte_limit + 1) input)) same prefix in
    let all : read ≡ notes.bytes = first ∙ take_all (notes_byte_limit + 1) notes.bytes (omega (arith, notes.fits)) in (
      subst (λ (bytes : List ℕ). length bytes ≤ notes_byte_limit) (sym all) notes.fits,
      subst IsUtf8 (sym all) notes.is_text,
    )

-- wishes are shown one by one
pub shown_each : (wishes : List Wish) → map (λ (wish : Wish). shown_wish (wish_view wish)) wishes
    ≡ map shown_wish (map wish_view wishes)
shown_each [] = refl
shown_each (wish ∷ wishes) =
    ap (λ (rest : List (List ℕ × List ℕ)). shown_wish (wish_view wish) ∷ rest) (shown_each wishes)
