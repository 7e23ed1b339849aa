-- A stream of a run isn't open, or one more is.
use Rattle.std.proofs.Common.{◌≡◌, ℕ, suc, zero, ◌+◌, ◌<◌, ◌≤◌, List, [], ◌∷◌, ◌++◌, length, take, map, refl, sym, ap, subst, ◌∙◌, arith, codes, Some, Option, true}
use Rattle.std.specs.Prelude.{IfSome}
use Rattle.std.specs.List.{AllZip, slice_get}
use Rattle.std.proofs.lemmas.Option.{slice_get-get_or}
use Rattle.def_format.specs.Names.{ProcessNames}
use Rattle.def_judgement.specs.Writes.{Source}
use Rattle.app_arguments.specs.Statuses.{File}
use Rattle.app_host.specs.FileSources.{Knows}
use Rattle.app_host.proofs.FilesRead.{opened_on}
use Rattle.app_test.specs.ReadRuns.{IsUnreadStream}
use Rattle.app_test.specs.Tests.{file_in, stream_in}

-- what is known of the file of a process's stream
abbrev pub source_in : (files : List ℕ → File) (folder : List ℕ) → ProcessNames → Source
source_in files folder process = (files (stream_in folder process)).source

some_at : {A : Type 0} (xs : List A) (i : ℕ) → i < length xs → (x : A) × (slice_get xs i ≡ Some x)
some_at [] i lt = absurd (omega (arith, lt))
some_at (x ∷ xs) zero lt = (x, refl)
some_at (x ∷ xs) (suc i) lt = some_at xs i (omega (arith, lt))

-- ---- how many there are

pub is_place : (names found : List ProcessNames) (end place : ℕ) → found ≡ names → end ≡ length found → place < end
    → place < length names
is_place names found end place same count lt =
    subst (λ (l : List ProcessNames). place < length l) same (omega (arith, count, lt))

pub is_past : (names found : List ProcessNames) (end place : ℕ) → found ≡ names → end ≡ length found → end ≤ place
    → length names ≤ place
is_past names found end place same count le =
    subst (λ (l : List ProcessNames). length l ≤ place) same (omega (arith, count, le))

-- ---- a stream

-- the file of the name that was made isn't open
pub stream_unopened : (files : List ℕ → File) (folder : List ℕ) (names found : List ProcessNames) (place : ℕ)
    (process path bytes : List ℕ) → place < length names → found ≡ names
    → IfSome (slice_get found place) (λ entry. process ≡ entry.name)
    → path ≡ file_in folder (process ++ codes ".stream") → bytes ≡ path → ((files bytes).opens ≡ true → ⊥)
    → IsUnreadStream files folder names path
stream_unopened files folder names found place process path bytes lt same is made lent never =
    let entry = some_at names place lt in
    let named : process ≡ entry.0.name =
    subst (λ (o : Option ProcessNames). IfSome o (λ one. process ≡ one.name)) entry.1
    (subst (λ (l : List ProcessNames). IfSome (slice_get l place) (λ one. process ≡ one.name)) same is) in (
      place,
      entry.0,
      entry.1,
      made ∙ ap (λ (name : List ℕ). file_in folder (name ++ codes ".stream")) named,
      λ opened read. never (subst (λ (p : List ℕ). (files p).opens ≡ true) (sym lent)
          (opened 0 (files path) (omega arith))),
    )

pub stream_opened_on : {F : Type 0} (files : List ℕ → File) (folder : List ℕ) (left : F → Source)
    (names : List ProcessNames) (streams : List F) (i : ℕ) (stream : F) → i < length names
    → AllZip Knows (map (source_in files folder) (take i names)) (map left streams)
    → IfSome (slice_get names i) (λ process. Knows (source_in files folder process) (left stream))
    → AllZip Knows (map (source_in files folder) (take (i + 1) names)) (map left (streams ++ stream ∷ []))
stream_opened_on files folder left names streams i stream lt all one =
    let found = some_at names i lt in
    opened_on (source_in files folder) left names streams i found.0 stream lt all
    (subst (λ (o : Option ProcessNames). IfSome o (λ process. Knows (source_in files folder process) (left stream)))
    (slice_get-get_or names i found.0 lt) one)
