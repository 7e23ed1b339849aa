-- What is made of a recorded run in a folder.
use Rattle.std.proofs.Common.{◌≡◌, ℕ, suc, ◌+◌, ◌<◌, List, [], ◌∷◌, ◌++◌, length, map, take, inl, refl, sym, ap, subst, ◌∙◌, append-nil, arith, codes, Err, None, Ok, Some, Option, true, false}
use Rattle.std.specs.Global.{Global}
use Rattle.std.specs.Prelude.{get_or, IfOk, IfSome, Result, Vec}
use Rattle.std.specs.List.{AllZip, slice_get, slice_index_or}
use Rattle.std.proofs.lemmas.Option.{slice_get-get_or}
use Rattle.std.proofs.Math.Seq.{take-suc}
use Rattle.std.proofs.lemmas.List.{map-append}
use Rattle.std.proofs.lemmas.List.Elements.{filter-append}
use Rattle.def_format.specs.Documents.{Document, IsDocument, Options, inquiry_of}
use Rattle.def_format.specs.Names.{ProcessNames}
use Rattle.def_format.specs.Reports.{Report}
use Rattle.def_judgement.specs.Writes.{Source}
use Rattle.app_arguments.specs.Statuses.{File, OfDocument, sources_of}
use Rattle.app_host.specs.FileSources.{IsReadOf, Knows, SameOutline, bytes_in}
use Rattle.app_host.proofs.DocumentPrefixes.{same_document}
use Rattle.app_host.proofs.FilesRead.{of_document}
use Rattle.app_test.specs.Tests.{file_in, stream_in, streams_in}
use Rattle.judge_explore.specs.Explored.{Form, IsPageOfInputs}
use Rattle.judge_explore.specs.Sources.{AreFilesOf, StreamFile}
use Rattle.judge_runs.specs.Views.{wish_view, wishes_view}
use Rattle.judge_runs.specs.Wishes.{Condition}
use Rattle.judge_runs.specs.declared.wish.Wish.{Wish}
use Rattle.judge_session.specs.declared.fault.EngineFault.{EngineFault}
use Rattle.app_explore.specs.Explorations.{Asked, IsFormOf}
use Rattle.app_results.specs.RunPages.{IsMadeOfDocument, is_named, named_wishes}
use Rattle.app_explore.proofs.ExplorationEnds.{owed_of_files}

-- ---- the wishes for predicates of a name

module _ (xs : List Wish) (i : ℕ) (d : Wish) (lt : i < length xs) where
  named_on : named_wishes (wishes_view (take (i + 1) xs))
      ≡ named_wishes (wishes_view (take i xs)) ++ named_wishes (wish_view (slice_index_or xs i d) ∷ [])
  named_on =
      ap (λ n. named_wishes (wishes_view (take n xs))) (let next : i + 1 ≡ suc i = omega arith in next)
      ∙ (ap (λ (some : List Wish). named_wishes (wishes_view some)) (take-suc xs i d lt)
      ∙ (ap named_wishes (map-append wish_view (take i xs) (slice_index_or xs i d ∷ []))
      ∙ filter-append (λ (wish : Condition). is_named wish.name) (wishes_view (take i xs))
      (wish_view (slice_index_or xs i d) ∷ [])))

  one_named : (wish : Condition) → is_named wish.name ≡ true → named_wishes (wish ∷ []) ≡ wish ∷ []
  one_named wish is = rw is refl

  none_named : (wish : Condition) → is_named wish.name ≡ false → named_wishes (wish ∷ []) ≡ []
  none_named wish is = rw is refl

  module _ (found : List Wish) (so_far : wishes_view found ≡ named_wishes (wishes_view (take i xs))) where
    pub named_added : is_named (wish_view (slice_index_or xs i d)).name ≡ true
        → wishes_view (found ++ slice_index_or xs i d ∷ []) ≡ named_wishes (wishes_view (take (i + 1) xs))
    named_added is =
        map-append wish_view found (slice_index_or xs i d ∷ [])
        ∙ (ap (λ l. l ++ wish_view (slice_index_or xs i d) ∷ []) so_far
        ∙ (ap (λ l. named_wishes (wishes_view (take i xs)) ++ l)
        (sym (one_named (wish_view (slice_index_or xs i d)) is)) ∙ sym named_on))

    pub named_passed : is_named (wish_view (slice_index_or xs i d)).name ≡ false
        → wishes_view found ≡ named_wishes (wishes_view (take (i + 1) xs))
    named_passed is =
        so_far
        ∙ (sym (append-nil (named_wishes (wishes_view (take i xs))))
        ∙ (ap (λ l. named_wishes (wishes_view (take i xs)) ++ l)
        (sym (none_named (wish_view (slice_index_or xs i d)) is)) ∙ sym named_on))

-- ---- the names of streams

some_at : {A : Type 0} (xs : List A) (i : ℕ) → i < length xs → A
some_at [] i lt = absurd (omega (arith, lt))
some_at (x ∷ xs) i lt = x

-- one more name
pub names_on : (folder : List ℕ) (names found : List ProcessNames) (end place : ℕ) (process path : List ℕ)
    (so_far : List (List ℕ)) → found ≡ names → end ≡ length found → place < end
    → IfSome (slice_get found place) (λ entry. process ≡ entry.name)
    → path ≡ file_in folder (process ++ codes ".stream") → so_far ≡ streams_in folder (take place names)
    → so_far ++ path ∷ [] ≡ streams_in folder (take (place + 1) names)
names_on folder names found end place process path so_far same count within is made all =
    let lt : place < length names =
    subst (λ (l : List ProcessNames). place < length l) same (omega (arith, count, within)) in
    let entry = get_or names place (some_at names place lt) in
    let named : process ≡ entry.name =
    subst (λ (o : Option ProcessNames). IfSome o (λ one. process ≡ one.name))
    (slice_get-get_or names place (some_at names place lt) lt)
    (subst (λ (l : List ProcessNames). IfSome (slice_get l place) (λ one. process ≡ one.name)) same is) in
    ap (λ (l : List (List ℕ)). l ++ path ∷ []) all
    ∙ (ap (λ (p : List ℕ). streams_in folder (take place names) ++ p ∷ [])
    (made ∙ ap (λ (name : List ℕ). file_in folder (name ++ codes ".stream")) named)
    ∙ (sym (map-append (stream_in folder) (take place names) (entry ∷ []))
    ∙ ap (streams_in folder) (sym (take-suc names place (some_at names place lt) lt)
    ∙ ap (λ n. take n names) (let next : suc place ≡ place + 1 = omega arith in next))))

-- ---- what is made of a run

-- what is known of a source is so of itself
some_itself : {A : Type 0} (o : Option A) → IfSome o (λ x. o ≡ Some x)
some_itself None = tt
some_itself (Some x) = refl

all_known : (sources : List Source) → AllZip Knows sources sources
all_known [] = tt
all_known (source ∷ sources) =
    (record { bytes = some_itself source.bytes; fails = some_itself source.fails }, all_known sources)

module _ (files : List ℕ → File) (asked : Asked) (folder : List ℕ) (options : Options) where
  -- what is made of a document that was read, and of its streams' readers, is that of their files
  pub made_of_streams : (bytes : List ℕ) (document : Document) → IsDocument (inquiry_of options bytes) document
      → (names : List (List ℕ)) → names ≡ streams_in folder document.names → (lefts : List Source)
      → AllZip Knows (sources_of (map files (streams_in folder document.names))) lefts
      → (form : Form) → IsFormOf (bytes_in files) asked form → (used : List StreamFile)
      → AreFilesOf (bytes_in files) names used → (report : Report) (text : List ℕ)
      → IsPageOfInputs (inquiry_of options bytes) form used lefts (λ other. other ≡ report) text
      → IsMadeOfDocument files asked folder (inquiry_of options bytes) text
  made_of_streams bytes document is names are_names lefts known form is_form used are_used report text owed = (
    document,
    is,
    report,
    (
      form,
      is_form,
      used,
      subst (λ (all : List (List ℕ)). AreFilesOf (bytes_in files) all used) are_names are_used,
      owed_of_files options bytes bytes (sources_of (map files (streams_in folder document.names))) lefts known
          (λ limit. refl) form used (λ other. other ≡ report) text (inl owed),
    ),
  )

  -- it is that of all bytes of the document
  moved : (read bytes text : List ℕ) → SameOutline options read bytes
      → IsMadeOfDocument files asked folder (inquiry_of options read) text
      → IsMadeOfDocument files asked folder (inquiry_of options bytes) text
  moved read bytes text same found =
      let sources = sources_of (map files (streams_in folder found.0.names)) in
      let owed = found.3 in (
        found.0,
        same_document options read bytes found.0 same found.1,
        found.2,
        (
          owed.0,
          owed.1,
          owed.2,
          owed.3,
          owed_of_files options read bytes sources sources (all_known sources) same owed.0 owed.2
              (λ other. other ≡ found.2) text owed.4,
        ),
      )

  made_of_read : (document : File) (read text : List ℕ) → IsReadOf read document.source
      → IsMadeOfDocument files asked folder (inquiry_of options read) text
      → OfDocument options document (λ inquiry. IsMadeOfDocument files asked folder inquiry text)
  made_of_read document read text is found =
      of_document options document read (IsMadeOfDocument files asked folder (inquiry_of options read) text)
      (λ inquiry. IsMadeOfDocument files asked folder inquiry text) is
      (λ bytes same found. moved read bytes text same found) found

-- the same of results
pub texts_of_read : (files : List ℕ → File) (asked : Asked) (folder : List ℕ) (options : Options)
    (document : File) (read : List ℕ) → IsReadOf read document.source
    → (result : Result (Vec ℕ Global) EngineFault)
    → IfOk result (λ text. IsMadeOfDocument files asked folder (inquiry_of options read) text.items)
    → IfOk result (λ text. OfDocument options document
    (λ inquiry. IsMadeOfDocument files asked folder inquiry text.items))
texts_of_read files asked folder options document read is (Ok text) found =
    made_of_read files asked folder options document read text.items is found
texts_of_read files asked folder options document read is (Err fault) found = tt
