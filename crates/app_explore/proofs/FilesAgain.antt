-- The files of streams that are read again.
use Rattle.std.proofs.Common.{◌≡◌, ◌∙◌, ℕ, suc, ◌+◌, ◌<◌, List, [], ◌∷◌, ◌++◌, length, take, map, refl, sym, ap, subst, arith, None, Some, Option, inl, inr}
use Rattle.std.specs.Prelude.{◌⊎◌, IfSome}
use Rattle.std.specs.List.{AllZip, slice_index_or}
use Rattle.std.proofs.lemmas.List.{map-append}
use Rattle.std.proofs.Math.Seq.{take-suc}
use Rattle.def_format.specs.Lines.{Line, finished_lines}
use Rattle.judge_explore.specs.Sources.{IsFileOf, StreamFile, file_of_lines, stream_bytes, stream_file}
use Rattle.app_host.proofs.FilesRead.{zip_on}

named : (name : List ℕ) (lines : List Line) → (file_of_lines name lines).name ≡ name
named name [] = refl
named name (first ∷ later) = refl

-- a file that was read again
pub file_read : (bytes_of : List ℕ → Option (List ℕ)) (name given : List ℕ) (file : StreamFile)
    → IfSome (bytes_of name) (λ bytes. given ≡ stream_bytes bytes) → file ≡ stream_file name given
    → IsFileOf bytes_of name file
file_read bytes_of name given file known same =
    (ap (λ (f : StreamFile). f.name) same ∙ named name (finished_lines given), go (bytes_of name) known)
  where
    go : (held : Option (List ℕ)) → IfSome held (λ bytes. given ≡ stream_bytes bytes)
        → IfSome held (λ bytes. (file ≡ file_of_lines name []) ⊎ (file ≡ stream_file name (stream_bytes bytes)))
    go None all = tt
    go (Some bytes) all = inr (same ∙ ap (λ (g : List ℕ). stream_file name g) all)

-- a file that wasn't
pub file_unread : (bytes_of : List ℕ → Option (List ℕ)) (name : List ℕ) (file : StreamFile)
    → file ≡ file_of_lines name [] → IsFileOf bytes_of name file
file_unread bytes_of name file same = (ap (λ (f : StreamFile). f.name) same, go (bytes_of name))
  where
    go : (held : Option (List ℕ))
        → IfSome held (λ bytes. (file ≡ file_of_lines name []) ⊎ (file ≡ stream_file name (stream_bytes bytes)))
    go None = tt
    go (Some bytes) = inl same

-- one more file
pub file_on : {N F : Type 0} (bytes_of : List ℕ → Option (List ℕ)) (name_of : N → List ℕ) (view : F → StreamFile)
    (names : List N) (files : List F) (i : ℕ) (d : N) (file : F) → i < length names
    → AllZip (IsFileOf bytes_of) (map name_of (take i names)) (map view files)
    → IsFileOf bytes_of (name_of (slice_index_or names i d)) (view file)
    → AllZip (IsFileOf bytes_of) (map name_of (take (i + 1) names)) (map view (files ++ file ∷ []))
file_on bytes_of name_of view names files i d file lt all one =
    let names_are : map name_of (take (i + 1) names)
    ≡ map name_of (take i names) ++ name_of (slice_index_or names i d) ∷ [] =
    ap (λ n. map name_of (take n names)) (let next : i + 1 ≡ suc i = omega arith in next)
    ∙ (ap (map name_of) (take-suc names i d lt)
    ∙ map-append name_of (take i names) (slice_index_or names i d ∷ [])) in
    let files_are : map view (files ++ file ∷ []) ≡ map view files ++ view file ∷ [] =
    map-append view files (file ∷ []) in
    subst (λ xs. AllZip (IsFileOf bytes_of) xs (map view (files ++ file ∷ []))) (sym names_are)
    (subst (λ ys. AllZip (IsFileOf bytes_of) (map name_of (take i names) ++ name_of (slice_index_or names i d) ∷ []) ys)
    (sym files_are) (zip_on (IsFileOf bytes_of) _ _ _ _ all one))
