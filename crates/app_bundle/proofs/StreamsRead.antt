-- What was read of the files of streams.
use Rattle.std.proofs.Common.{◌≡◌, ◌≢◌, ◌+◌, ◌<◌, ◌≤◌, ℕ, true, List, [], ◌∷◌, ◌++◌, length, map, take, refl, sym, subst, suc, zero, arith, Some, Option, Ok, Err}
use Rattle.std.specs.Global.{Global}
use Rattle.std.specs.Prelude.{IfOk, IfSome, Result, Vec, vec_len}
use Rattle.std.specs.List.{AllZip, slice_get, slice_index_or}
use Rattle.std.proofs.lemmas.List.{map-append, map_more}
use Rattle.std.proofs.lemmas.Option.{slice_get-get_or}
use Rattle.def_format.specs.Limits.{stream_byte_limit}
use Rattle.def_format.specs.Names.{ProcessNames}
use Rattle.def_judgement.specs.Writes.{Source}
use Rattle.app_arguments.specs.Statuses.{File}
use Rattle.app_host.specs.FileSources.{Knows}
use Rattle.app_host.proofs.FilesRead.{of_known_bytes, of_known_fate, zip_on}
use Rattle.app_test.specs.Tests.{stream_in}
use Rattle.judge_session.specs.declared.fault.EngineFault.{EngineFault}
use Rattle.app_bundle.specs.Bundles.{IsStreamOf}

-- the bytes that were read up to the limit
pub stream_result : (file left : Source) (result : Result (Vec ℕ Global) EngineFault) → Knows file left
    → IfOk result (λ bytes. IfSome left.bytes (λ input. bytes.items ≡ take (stream_byte_limit + 1) input))
    → IfOk result (λ bytes. vec_len bytes ≤ stream_byte_limit → left.fails ≢ Some true)
    → IfOk result (λ bytes. IsStreamOf file bytes.items)
stream_result file left (Ok bytes) knows prefix end = record {
  all = of_known_bytes file left _ knows prefix;
  ended = λ short fails. end (omega (arith, bytes.ok.0, short)) (of_known_fate file left true knows fails);
}
stream_result file left (Err fault) knows prefix end = tt

pub some_at : {A : Type 0} (xs : List A) (i : ℕ) → i < length xs → (x : A) × (slice_get xs i ≡ Some x)
some_at [] i lt = absurd (omega (arith, lt))
some_at (x ∷ xs) zero lt = (x, refl)
some_at (x ∷ xs) (suc i) lt = some_at xs i (omega (arith, lt))

-- what is known of the file of a process's stream
abbrev pub source_in : (files : List ℕ → File) (folder : List ℕ) → ProcessNames → Source
source_in files folder process = (files (stream_in folder process)).source

-- ---- how many there are

pub is_place : (names found : List ProcessNames) (end place : ℕ) → found ≡ names → end ≡ length found → place < end
    → place < length names
is_place names found end place same count lt =
    subst (λ (l : List ProcessNames). place < length l) same (omega (arith, count, lt))

pub is_past : (names found : List ProcessNames) (end place : ℕ) → found ≡ names → end ≡ length found → end ≤ place
    → length names ≤ place
is_past names found end place same count le =
    subst (λ (l : List ProcessNames). length l ≤ place) same (omega (arith, count, le))

-- the text of one more stream
pub text_on : {T : Type 0} (files : List ℕ → File) (folder : List ℕ) (bytes_of : T → List ℕ)
    (names : List ProcessNames) (texts : List T) (i : ℕ) (text : T) → i < length names
    → AllZip IsStreamOf (map (source_in files folder) (take i names)) (map bytes_of texts)
    → IfSome (slice_get names i) (λ process. IsStreamOf (source_in files folder process) (bytes_of text))
    → AllZip IsStreamOf (map (source_in files folder) (take (i + 1) names)) (map bytes_of (texts ++ text ∷ []))
text_on files folder bytes_of names texts i text lt all one =
    let found = some_at names i lt in
    let source_of = source_in files folder in
    let is : IsStreamOf (source_of (slice_index_or names i found.0)) (bytes_of text) =
    subst (λ (o : Option ProcessNames). IfSome o (λ process. IsStreamOf (source_of process) (bytes_of text)))
    (slice_get-get_or names i found.0 lt) one in
    subst (λ xs. AllZip IsStreamOf xs (map bytes_of (texts ++ text ∷ []))) (sym (map_more source_of names i found.0 lt))
    (subst (λ ys. AllZip IsStreamOf (map source_of (take i names) ++ source_of (slice_index_or names i found.0) ∷ [])
    ys) (sym (map-append bytes_of texts (text ∷ []))) (zip_on IsStreamOf _ _ _ _ all is))
