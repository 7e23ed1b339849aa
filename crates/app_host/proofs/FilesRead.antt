-- What is left written by the bytes that were read holds of all that the files hold.
use Rattle.std.proofs.Common.{◌≡◌, ◌≢◌, ℕ, suc, ◌+◌, ◌≤◌, ◌<◌, List, [], ◌∷◌, ◌++◌, length, length-take, take, map, refl, sym, ap, subst, ◌∙◌, arith, None, Some, Option, Ok, Err, true, false, inl, inr}
use Rattle.std.specs.Global.{Global}
use Rattle.std.specs.Prelude.{◌⊎◌, Bool, IfOk, IfSome, Result, Vec, vec_len}
use Rattle.std.specs.List.{AllZip, slice_index_or}
use Rattle.std.proofs.Math.Seq.{take-suc}
use Rattle.std.proofs.lemmas.Bool.{cases_lt}
use Rattle.std.proofs.lemmas.List.{map-append, take_all}
use Rattle.def_model.proofs.ListPrefixes.{whole_input}
use Rattle.def_format.specs.Documents.{Inquiry, Options, inquiry_of}
use Rattle.def_format.specs.Limits.{document_byte_limit}
use Rattle.def_format.specs.Reports.{Report}
use Rattle.def_judgement.specs.Judgements.{RawStream}
use Rattle.def_judgement.specs.Writes.{IsAnyReport, IsGivenAs, IsRefused, IsTextOfStreams, IsWholeInput, Partial, Source, Whole, whole_source}
use Rattle.def_judgement.proofs.Writing.{writes_weaker}
use Rattle.app_arguments.specs.Statuses.{Ending, Success, Negative, Alarm, NoPredicate, Misuse, Failed, ComesTo, File, MemoryFailure, ReadFailure, WriteFailure, BundleFailure, NetworkFailure, LeavesOf, OfClaim, OfDocument, OfFinding, OfReport, OfStreams, WritesUpTo, sources_of}
use Rattle.app_arguments.specs.Conditions as conditions
use Rattle.judge_runs.specs.Wishes.{Condition}
use Rattle.judge_session.specs.declared.fault.EngineFault.{EngineFault}
use Rattle.app_arguments.specs.Formats.{Format}
use Rattle.app_host.specs.Formats.{IsFindingIn}
use Rattle.app_host.specs.FileSources.{IsReadOf, Knows, ReadLeaves, SameOutline}
use Rattle.app_host.proofs.DocumentPrefixes.{both_long, same_report_text, same_text}

-- ---- what was read of a source

-- a source of which all is known
pub whole_is_whole : (bytes : List ℕ) → IsWholeInput (whole_source bytes) bytes
whole_is_whole bytes = record { all = refl; ends = λ fails. cc }

-- more was left than was read within the limit
pub if_more_left : (known : Option (List ℕ)) (bytes : List ℕ) (n : ℕ)
    → IfSome known (λ input. bytes ≡ take (n + 1) input) → n < length bytes → IfSome known (λ input. n < length input)
if_more_left None bytes n prefix lt = tt
if_more_left (Some input) bytes n prefix lt =
    let shorter : length bytes ≡ length (take (n + 1) input) = ap length prefix in
    omega (arith, lt, shorter, length-take (n + 1) input)

-- what was read within the limit is all that was left
pub if_all_left : (known : Option (List ℕ)) (bytes kept : List ℕ) (n : ℕ) → kept ≡ bytes
    → IfSome known (λ input. bytes ≡ take (n + 1) input) → length bytes ≤ n → IfSome known (λ input. kept ≡ input)
if_all_left None bytes kept n same prefix le = tt
if_all_left (Some input) bytes kept n same prefix le = same ∙ whole_input input bytes n prefix le

-- the first bytes of a document, up to one more than its limit, are all of it, or it is too long
first_bytes : (known : Option (List ℕ)) (read : List ℕ)
    → IfSome known (λ bytes. read ≡ take (document_byte_limit + 1) bytes)
    → IfSome known (λ bytes. (read ≡ bytes) ⊎ (document_byte_limit < length read) ×
    (document_byte_limit < length bytes))
first_bytes None read prefix = tt
first_bytes (Some bytes) read prefix = go (cases_lt document_byte_limit (length bytes))
  where
    count : length read ≡ length (take (document_byte_limit + 1) bytes)
    count = ap length prefix

    go : (document_byte_limit < length bytes) ⊎ (length bytes ≤ document_byte_limit)
        → (read ≡ bytes) ⊎ (document_byte_limit < length read) × (document_byte_limit < length bytes)
    go (inl long) = inr (omega (arith, count, length-take (document_byte_limit + 1) bytes), long)
    go (inr short) = inl (prefix ∙ take_all (document_byte_limit + 1) bytes (omega arith))

pub read_of_prefix : (source : Source) (read : List ℕ)
    → IfSome source.bytes (λ bytes. read ≡ take (document_byte_limit + 1) bytes)
    → (length read ≤ document_byte_limit → source.fails ≢ Some true) → IsReadOf read source
read_of_prefix source read prefix end = record {
  all = first_bytes source.bytes read prefix;
  ended = λ fails. go fails (cases_lt document_byte_limit (length read));
}
  where
    go : source.fails ≡ Some true → (document_byte_limit < length read) ⊎ (length read ≤ document_byte_limit)
        → document_byte_limit < length read
    go fails (inl long) = long
    go fails (inr short) = absurd (end short fails)

pub document_read : (source : Source) (result : Result (Vec ℕ Global) EngineFault)
    → IfOk result (λ bytes. IfSome source.bytes (λ input. bytes.items ≡ take (document_byte_limit + 1) input))
    → IfOk result (λ bytes. vec_len bytes ≤ document_byte_limit → source.fails ≢ Some true)
    → IfOk result (λ bytes. IsReadOf bytes.items source)
document_read source (Ok bytes) prefix end =
    read_of_prefix source bytes.items prefix (λ short. end (omega (arith, bytes.ok.0, short)))
document_read source (Err fault) prefix end = tt

-- ---- files, of which readers have what is known

known_bytes : (file : Option (List ℕ)) (left : Option (List ℕ)) (P : List ℕ → Type 0)
    → IfSome file (λ bytes. left ≡ Some bytes) → IfSome left P → IfSome file P
known_bytes None left P knows all = tt
known_bytes (Some bytes) left P knows all = subst (λ (l : Option (List ℕ)). IfSome l P) knows all

-- what is said of all that a reader has left is said of its file
pub of_known_bytes : (file left : Source) (P : List ℕ → Type 0) → Knows file left → IfSome left.bytes P
    → IfSome file.bytes P
of_known_bytes file left P knows all = known_bytes file.bytes left.bytes P knows.bytes all

known_fate : (file : Option Bool) (left : Option Bool) (fails : Bool) → IfSome file (λ f. left ≡ Some f)
    → file ≡ Some fails → left ≡ Some fails
known_fate None left fails knows is = absurd (cc)
known_fate (Some f) left fails knows is = knows ∙ is

-- so is whether a read fails
pub of_known_fate : (file left : Source) (fails : Bool) → Knows file left → file.fails ≡ Some fails
    → left.fails ≡ Some fails
of_known_fate file left fails knows is = known_fate file.fails left.fails fails knows.fails is

pub read_of_file : (file left : Source) (read : List ℕ) → Knows file left → IsReadOf read left → IsReadOf read file
read_of_file file left read knows is = record {
  all = of_known_bytes file left _ knows is.all;
  ended = λ fails. is.ended (of_known_fate file left true knows fails);
}

pub whole_of_file : (file left : Source) (read : List ℕ) → Knows file left → IsWholeInput left read
    → IsWholeInput file read
whole_of_file file left read knows is = record {
  all = of_known_bytes file left _ knows is.all;
  ends = λ fails. is.ends (of_known_fate file left true knows fails);
}

given_as_file : (file left : Source) (given : RawStream) → Knows file left → IsGivenAs left given
    → IsGivenAs file given
given_as_file file left given knows h = record {
  given_by = record {
    stopped = h.given_by.stopped;
    prefix = of_known_bytes file left _ knows h.given_by.prefix;
    whole = λ ended. of_known_bytes file left _ knows (h.given_by.whole ended);
  };
  ends = λ fails. h.ends (of_known_fate file left false knows fails);
  fails = λ fails. h.fails (of_known_fate file left true knows fails);
  fails_after = λ fails. of_known_bytes file left _ knows (h.fails_after (of_known_fate file left true knows fails));
}

pub given_as_files : (files lefts : List Source) (streams : List RawStream) → AllZip Knows files lefts
    → AllZip IsGivenAs lefts streams → AllZip IsGivenAs files streams
given_as_files [] [] streams are given = given
given_as_files [] (l ∷ lefts) streams are given = absurd are
given_as_files (f ∷ files) [] streams are given = absurd are
given_as_files (f ∷ files) (l ∷ lefts) [] are given = absurd given
given_as_files (f ∷ files) (l ∷ lefts) (s ∷ streams) are given =
    (given_as_file f l s are.0 given.0, given_as_files files lefts streams are.1 given.1)

pub zip_on : {A B : Type 0} (R : A → B → Type 0) (xs : List A) (ys : List B) (x : A) (y : B) → AllZip R xs ys → R x y
    → AllZip R (xs ++ x ∷ []) (ys ++ y ∷ [])
zip_on R [] [] x y all one = (one, tt)
zip_on R [] (b ∷ ys) x y all one = absurd all
zip_on R (a ∷ xs) [] x y all one = absurd all
zip_on R (a ∷ xs) (b ∷ ys) x y all one = (all.0, zip_on R xs ys x y all.1 one)

-- one more file is opened
pub opened_on : {N F : Type 0} (source_of : N → Source) (left : F → Source) (names : List N) (files : List F) (i : ℕ)
    (d : N) (file : F) → i < length names → AllZip Knows (map source_of (take i names)) (map left files)
    → Knows (source_of (slice_index_or names i d)) (left file)
    → AllZip Knows (map source_of (take (i + 1) names)) (map left (files ++ file ∷ []))
opened_on source_of left names files i d file lt all one =
    let names_are : map source_of (take (i + 1) names)
    ≡ map source_of (take i names) ++ source_of (slice_index_or names i d) ∷ [] =
    ap (λ n. map source_of (take n names)) (let next : i + 1 ≡ suc i = omega arith in next)
    ∙ (ap (map source_of) (take-suc names i d lt)
    ∙ map-append source_of (take i names) (slice_index_or names i d ∷ [])) in
    let files_are : map left (files ++ file ∷ []) ≡ map left files ++ left file ∷ [] =
    map-append left files (file ∷ []) in
    subst (λ xs. AllZip Knows xs (map left (files ++ file ∷ []))) (sym names_are)
    (subst (λ ys. AllZip Knows (map source_of (take i names) ++ source_of (slice_index_or names i d) ∷ []) ys)
    (sym files_are) (zip_on Knows _ _ _ _ all one))

-- the files of names, one after another
pub sources_of_names : {N : Type 0} (files : List ℕ → File) (name_of : N → List ℕ) (names : List N)
    → map (λ name. (files (name_of name)).source) names ≡ sources_of (map files (map name_of names))
sources_of_names files name_of [] = refl
sources_of_names files name_of (name ∷ names) =
    ap (λ (rest : List Source). (files (name_of name)).source ∷ rest) (sources_of_names files name_of names)

-- ---- the document

pub of_document : (options : Options) (file : File) (read : List ℕ) (P : Type 0) (Q : Inquiry → Type 0)
    → IsReadOf read file.source
    → ((document : List ℕ) → SameOutline options read document → P → Q (inquiry_of options document)) → P
    → OfDocument options file Q
of_document options file read P Q is go h = by file.source.bytes refl is.all
  where
    by : (known : Option (List ℕ)) → file.source.bytes ≡ known
        → IfSome known (λ bytes. (read ≡ bytes)
        ⊎ (document_byte_limit < length read) × (document_byte_limit < length bytes)) → OfDocument options file Q
    by None same all = record {
      bytes = read;
      whole = record {
        all = subst (λ (known : Option (List ℕ)). IfSome known (λ bytes. read ≡ bytes)) (sym same) tt;
        ended = is.ended;
      };
      holds = go read (λ limit. refl) h;
    }
    by (Some bytes) same (inl equal) = record {
      bytes = bytes;
      whole = record {
        all = subst (λ (known : Option (List ℕ)). IfSome known (λ others. bytes ≡ others)) (sym same) refl;
        ended = λ fails. subst (λ (r : List ℕ). document_byte_limit < length r) equal (is.ended fails);
      };
      holds = go bytes (subst (λ (r : List ℕ). SameOutline options read r) equal (λ limit. refl)) h;
    }
    by (Some bytes) same (inr long) = record {
      bytes = bytes;
      whole = record {
        all = subst (λ (known : Option (List ℕ)). IfSome known (λ others. bytes ≡ others)) (sym same) refl;
        ended = λ fails. long.1;
      };
      holds = go bytes (both_long options read bytes long.0 long.1) h;
    }

-- what is left by the bytes that were read is what is to be left by the file
module _ (options : Options) (file : File) (read : List ℕ) (IsUnread : Type 0)
    (P : Ending → (old new : Option (List ℕ)) → Type 0)
    (Q : Inquiry → Ending → (old new : Option (List ℕ)) → Type 0) (old new : Option (List ℕ))
    (is : IsReadOf read file.source)
    (go : (document : List ℕ) → SameOutline options read document → (ending : Ending) → P ending old new
    → Q (inquiry_of options document) ending old new) where
  at : (ending : Ending) → P ending old new → OfDocument options file (λ inquiry. Q inquiry ending old new)
  at ending left =
      of_document options file read (P ending old new) (λ inquiry. Q inquiry ending old new) is
      (λ document same here. go document same ending here) left

  pub leaves_of_read : (ending : Ending) → ReadLeaves P ending old new → LeavesOf options file IsUnread Q ending old new
  leaves_of_read Success left = at Success left
  leaves_of_read Negative left = at Negative left
  leaves_of_read Alarm left = at Alarm left
  leaves_of_read NoPredicate left = at NoPredicate left
  leaves_of_read Misuse left = at Misuse left
  leaves_of_read (Failed MemoryFailure) left = left
  leaves_of_read (Failed ReadFailure) left = absurd left
  leaves_of_read (Failed WriteFailure) left = at (Failed WriteFailure) left
  leaves_of_read (Failed BundleFailure) left = at (Failed BundleFailure) left
  leaves_of_read (Failed NetworkFailure) left = at (Failed NetworkFailure) left

-- ---- the texts that are owed

pub up_to_weaker : (P Q : List ℕ → Type 0) (old new : Option (List ℕ)) → ((text : List ℕ) → P text → Q text)
    → WritesUpTo P old new → WritesUpTo Q old new
up_to_weaker P Q old new go (inl whole) = inl (writes_weaker P Q Whole old new go whole)
up_to_weaker P Q old new go (inr part) = inr (writes_weaker P Q Partial old new go part)

pub report_weaker : (IsText IsOther : (Report → Type 0) → List ℕ → Type 0) (fail_on : List Condition)
    (old new : Option (List ℕ))
    → ((IsSaid : Report → Type 0) (text : List ℕ) → IsText IsSaid text → IsOther IsSaid text) → (ending : Ending)
    → OfReport IsText fail_on ending old new → OfReport IsOther fail_on ending old new
report_weaker IsText IsOther fail_on old new go Success left =
    writes_weaker _ _ Whole old new (go (ComesTo fail_on conditions.Unmet)) left
report_weaker IsText IsOther fail_on old new go Negative left = writes_weaker _ _ Whole old new (go IsRefused) left
report_weaker IsText IsOther fail_on old new go Alarm left =
    writes_weaker _ _ Whole old new (go (ComesTo fail_on conditions.Met)) left
report_weaker IsText IsOther fail_on old new go NoPredicate left = left
report_weaker IsText IsOther fail_on old new go Misuse left = left
report_weaker IsText IsOther fail_on old new go (Failed MemoryFailure) left = left
report_weaker IsText IsOther fail_on old new go (Failed ReadFailure) left = left
report_weaker IsText IsOther fail_on old new go (Failed WriteFailure) left =
    up_to_weaker _ _ old new (go IsAnyReport) left
report_weaker IsText IsOther fail_on old new go (Failed BundleFailure) left = left
report_weaker IsText IsOther fail_on old new go (Failed NetworkFailure) left = left

-- the same where memory ran out, or a file couldn't be read
pub read_weaker : (P Q : Ending → (old new : Option (List ℕ)) → Type 0) (old new : Option (List ℕ))
    → ((ending : Ending) → P ending old new → Q ending old new) → (ending : Ending) → ReadLeaves P ending old new
    → ReadLeaves Q ending old new
read_weaker P Q old new go Success left = go Success left
read_weaker P Q old new go Negative left = go Negative left
read_weaker P Q old new go Alarm left = go Alarm left
read_weaker P Q old new go NoPredicate left = go NoPredicate left
read_weaker P Q old new go Misuse left = go Misuse left
read_weaker P Q old new go (Failed MemoryFailure) left = left
read_weaker P Q old new go (Failed ReadFailure) left = absurd left
read_weaker P Q old new go (Failed WriteFailure) left = go (Failed WriteFailure) left
read_weaker P Q old new go (Failed BundleFailure) left = go (Failed BundleFailure) left
read_weaker P Q old new go (Failed NetworkFailure) left = go (Failed NetworkFailure) left

pub report_text_of_files : (options : Options) (read document : List ℕ) (files lefts : List Source)
    (IsSaid : Report → Type 0) (text : List ℕ) → SameOutline options read document → AllZip Knows files lefts
    → IsTextOfStreams (inquiry_of options read) lefts IsSaid text
    → IsTextOfStreams (inquiry_of options document) files IsSaid text
report_text_of_files options read document files lefts IsSaid text same are h =
    same_report_text options read document files IsSaid text same (record {
      streams = h.streams;
      are_given = given_as_files files lefts h.streams are h.are_given;
      is_report_text = h.is_report_text;
    })

-- what is left written of a judgement by the bytes that were read is what is to be left by the files
pub judgement_of_files : (options : Options) (read document : List ℕ) (files lefts : List Source)
    (fail_on : List Condition) (old new : Option (List ℕ)) → AllZip Knows files lefts
    → SameOutline options read document → (ending : Ending)
    → OfStreams lefts fail_on (inquiry_of options read) ending old new
    → OfStreams files fail_on (inquiry_of options document) ending old new
judgement_of_files options read document files lefts fail_on old new are same =
    report_weaker (IsTextOfStreams (inquiry_of options read) lefts)
    (IsTextOfStreams (inquiry_of options document) files) fail_on old new
    (λ IsSaid text. report_text_of_files options read document files lefts IsSaid text same are)

-- ---- a check

pub finding_text_of_files : (format : Format) (options : Options) (read document report : List ℕ)
    (files lefts : List Source) (good : Option Bool) (text : List ℕ) → SameOutline options read document
    → AllZip Knows files lefts → IsFindingIn format (inquiry_of options read) report lefts good text
    → IsFindingIn format (inquiry_of options document) report files good text
finding_text_of_files format options read document report files lefts good text same are h =
    same_text format options read document report files good text same (record {
      streams = h.streams;
      are_given = given_as_files files lefts h.streams are h.are_given;
      finding = h.finding;
      right = h.right;
      clean = h.clean;
      is_text = h.is_text;
    })

-- what holds of a report's bytes holds of the report of a source that has these bytes
pub of_claim : (file : Source) (claimed : List ℕ) (P Q : List ℕ → Type 0) → IsWholeInput file claimed
    → ((report : List ℕ) → P report → Q report) → OfClaim (whole_source claimed) P → OfClaim file Q
of_claim file claimed P Q whole go h = record {
  bytes = h.bytes;
  whole = subst (λ (r : List ℕ). IsWholeInput file r) (sym h.whole.all) whole;
  fits = h.fits;
  holds = go h.bytes h.holds;
}

pub check_of_files : (format : Format) (options : Options) (read document : List ℕ) (file : Source) (claimed : List ℕ)
    (files lefts : List Source) (old new : Option (List ℕ)) → IsWholeInput file claimed → AllZip Knows files lefts
    → SameOutline options read document → (ending : Ending)
    → OfFinding (IsFindingIn format) (whole_source claimed) lefts (inquiry_of options read) ending old new
    → OfFinding (IsFindingIn format) file files (inquiry_of options document) ending old new
check_of_files format options read document file claimed files lefts old new whole are same Success left =
    of_claim file claimed _ _ whole (λ report. writes_weaker _ _ Whole old new (λ text.
    finding_text_of_files format options read document report files lefts (Some true) text same are)) left
check_of_files format options read document file claimed files lefts old new whole are same Negative left =
    of_claim file claimed _ _ whole (λ report. writes_weaker _ _ Whole old new (λ text.
    finding_text_of_files format options read document report files lefts (Some false) text same are)) left
check_of_files format options read document file claimed files lefts old new whole are same Alarm left = left
check_of_files format options read document file claimed files lefts old new whole are same NoPredicate left = left
check_of_files format options read document file claimed files lefts old new whole are same Misuse left = left
check_of_files format options read document file claimed files lefts old new whole are same
    (Failed MemoryFailure) left = left
check_of_files format options read document file claimed files lefts old new whole are same
    (Failed ReadFailure) left = left
check_of_files format options read document file claimed files lefts old new whole are same (Failed WriteFailure) left =
    of_claim file claimed _ _ whole (λ report. up_to_weaker _ _ old new (λ text.
    finding_text_of_files format options read document report files lefts None text same are)) left
check_of_files format options read document file claimed files lefts old new whole are same
    (Failed BundleFailure) left = left
check_of_files format options read document file claimed files lefts old new whole are same
    (Failed NetworkFailure) left = left
