-- What a run that draws leaves by what readers have left is what it leaves by all that the files hold.
use Rattle.std.proofs.Common.{◌≡◌, ℕ, suc, zero, List, [], ◌∷◌, length, map, Option, None, Some, Ok, Err, true, false, refl, sym, ap, ◌∙◌, inl, inr, arith}
use Rattle.std.specs.Prelude.{All, Bool, IfSome, Result}
use Rattle.std.specs.List.{AllZip}
use Rattle.app_arguments.specs.Statuses.{File, OfDocument}
use Rattle.def_format.specs.Documents.{Options, inquiry_of}
use Rattle.def_format.specs.Limits.{report_byte_limit, stream_byte_limit}
use Rattle.def_judgement.specs.Writes.{IsAnyReport, IsWholeInput, Source, whole_source}
use Rattle.out_picture.specs.Scopes.{Scope}
use Rattle.judge_draw.specs.declared.drawings.DrawOutcome.{DrawOutcome}
use Rattle.judge_session.specs.declared.fault.EngineFault.{EngineFault}
use Rattle.judge_session.specs.declared.fault.EngineFault.TheVariants.{Memory, Write, Read, BundleLong}
use Rattle.app_draw.specs.Drawings.{AreStreams, DrawLeaves, DrawReadLeaves, IsSurelyRead, OfClaimed, OfDrawing, OfFiles, OfOwnDrawing}
use Rattle.app_host.specs.FileSources.{IsReadOf, Knows, SameOutline}
use Rattle.app_host.proofs.DocumentPrefixes.{same_document}
use Rattle.app_host.proofs.FilesRead.{of_document, of_known_fate, report_text_of_files, whole_of_file}
use Rattle.app_draw.proofs.DrawingsRead.{due_of_files, report_of_files}

-- ---- what is surely read

known_some : (file left : Option (List ℕ)) (bytes : List ℕ) → IfSome file (λ known. left ≡ Some known)
    → file ≡ Some bytes → left ≡ Some bytes
known_some None left bytes knows is = absurd (cc)
known_some (Some known) left bytes knows is = knows ∙ is

-- of a file that is surely read the reader has surely all left
surely_left : (limit : ℕ) (file left : Source) → Knows file left → IsSurelyRead limit file → IsSurelyRead limit left
surely_left limit file left knows sure = record {
  ends = of_known_fate file left false knows sure.ends;
  bytes = sure.bytes;
  known = known_some file.bytes left.bytes sure.bytes knows.bytes sure.known;
  fits = sure.fits;
}

all_surely_left : (limit : ℕ) (files lefts : List Source) → AllZip Knows files lefts → All (IsSurelyRead limit) files
    → All (IsSurelyRead limit) lefts
all_surely_left limit [] [] are sure = λ i d lt. absurd (omega (arith, lt))
all_surely_left limit [] (l ∷ lefts) are sure = absurd are
all_surely_left limit (f ∷ files) [] are sure = absurd are
all_surely_left limit (f ∷ files) (l ∷ lefts) are sure =
    go (all_surely_left limit files lefts are.1 (λ i d lt. sure (suc i) d (omega (arith, lt))))
  where
    go : All (IsSurelyRead limit) lefts → All (IsSurelyRead limit) (l ∷ lefts)
    go rest zero d lt = surely_left limit f l are.0 (sure zero f (omega arith))
    go rest (suc i) d lt = rest i d (omega (arith, lt))

-- ---- bytes that were read to their end

whole_bytes : (left : Option (List ℕ)) (bytes : List ℕ) → IfSome left (λ known. bytes ≡ known)
    → IfSome left (λ known. Some bytes ≡ Some known)
whole_bytes None bytes all = tt
whole_bytes (Some known) bytes all = ap (λ (b : List ℕ). Some b) all

whole_fate : (fails : Option Bool) → (fails ≡ Some true → ⊥) → IfSome fails (λ known. Some false ≡ Some known)
whole_fate None ends = tt
whole_fate (Some true) ends = absurd (ends refl)
whole_fate (Some false) ends = refl

-- what is known of a source is known of the bytes that it gave to its end
knows_whole : (left : Source) (bytes : List ℕ) → IsWholeInput left bytes → Knows left (whole_source bytes)
knows_whole left bytes whole = record {
  bytes = whole_bytes left.bytes bytes whole.all;
  fails = whole_fate left.fails whole.ends;
}

pub all_know_whole : {B : Type 0} (items_of : B → List ℕ) (lefts : List Source) (read : List B)
    → AllZip IsWholeInput lefts (map items_of read) → AllZip Knows lefts (map (λ b. whole_source (items_of b)) read)
all_know_whole items_of [] [] are = are
all_know_whole items_of [] (b ∷ read) are = absurd are
all_know_whole items_of (l ∷ lefts) [] are = absurd are
all_know_whole items_of (l ∷ lefts) (b ∷ read) are =
    (knows_whole l (items_of b) are.0, all_know_whole items_of lefts read are.1)

-- ---- what is left

zip_length : (files lefts : List Source) → AllZip Knows files lefts → length files ≡ length lefts
zip_length [] [] are = refl
zip_length [] (l ∷ lefts) are = absurd are
zip_length (f ∷ files) [] are = absurd are
zip_length (f ∷ files) (l ∷ lefts) are = ap suc (zip_length files lefts are.1)

streams_alone : (options : Options) (read document : List ℕ) (n m : ℕ) → SameOutline options read document → n ≡ m
    → AreStreams (inquiry_of options read) n → AreStreams (inquiry_of options document) m
streams_alone options read document n m same count (inl few) = inl (omega (arith, count, few))
streams_alone options read document n m same count (inr (held, is, as_many)) =
    inr (held, same_document options read document held same is, sym count ∙ as_many)

module _ (options : Options) (read document : List ℕ) (scope : Scope) (old new : Option (List ℕ))
    (same : SameOutline options read document) where
  -- a report in a file
  drawing_of_file : (file left : Source) (files lefts : List Source) → Knows file left → AllZip Knows files lefts
      → (result : Result DrawOutcome EngineFault)
      → OfDrawing left lefts scope (inquiry_of options read) result old new
      → OfDrawing file files scope (inquiry_of options document) result old new
  drawing_of_file file left files lefts knows are (Err Read) (unread, keeps) =
      (λ sure. unread (surely_left report_byte_limit file left knows sure), keeps)
  drawing_of_file file left files lefts knows are (Ok outcome) h = record {
    bytes = h.bytes;
    whole = whole_of_file file left h.bytes knows h.whole;
    fits = h.fits;
    holds = report_of_files options read document h.bytes files lefts scope old new same are (Ok outcome) h.holds;
  }
  drawing_of_file file left files lefts knows are (Err Memory) h = record {
    bytes = h.bytes;
    whole = whole_of_file file left h.bytes knows h.whole;
    fits = h.fits;
    holds = h.holds;
  }
  drawing_of_file file left files lefts knows are (Err Write) h = record {
    bytes = h.bytes;
    whole = whole_of_file file left h.bytes knows h.whole;
    fits = h.fits;
    holds = report_of_files options read document h.bytes files lefts scope old new same are (Err Write) h.holds;
  }
  drawing_of_file file left files lefts knows are (Err BundleLong) h = record {
    bytes = h.bytes;
    whole = whole_of_file file left h.bytes knows h.whole;
    fits = h.fits;
    holds = h.holds;
  }

  claimed_of_files : (files lefts : List Source) → AllZip Knows files lefts → (result : Result DrawOutcome EngineFault)
      → OfClaimed lefts scope (inquiry_of options read) result old new
      → OfClaimed files scope (inquiry_of options document) result old new
  claimed_of_files [] [] are result left = left
  claimed_of_files [] (l ∷ lefts) are result left = absurd are
  claimed_of_files (f ∷ files) [] are result left = absurd left
  claimed_of_files (f ∷ files) (l ∷ lefts) are result left =
      drawing_of_file f l files lefts are.0 are.1 result left

  -- the report that is due
  pub own_of_files : (files lefts : List Source) → AllZip Knows files lefts → (result : Result DrawOutcome EngineFault)
      → OfOwnDrawing lefts scope (inquiry_of options read) result old new
      → OfOwnDrawing files scope (inquiry_of options document) result old new
  own_of_files files lefts are (Err Read) (unread, keeps) =
      (λ sure. unread (all_surely_left stream_byte_limit files lefts are sure), keeps)
  own_of_files files lefts are (Ok outcome) h = record {
    report = h.report;
    is_due = report_text_of_files options read document files lefts IsAnyReport h.report same are h.is_due;
    drawn = due_of_files options read document h.report files lefts scope old new same are (Ok outcome) h.drawn;
  }
  own_of_files files lefts are (Err Memory) h = record {
    report = h.report;
    is_due = report_text_of_files options read document files lefts IsAnyReport h.report same are h.is_due;
    drawn = due_of_files options read document h.report files lefts scope old new same are (Err Memory) h.drawn;
  }
  own_of_files files lefts are (Err Write) h = record {
    report = h.report;
    is_due = report_text_of_files options read document files lefts IsAnyReport h.report same are h.is_due;
    drawn = due_of_files options read document h.report files lefts scope old new same are (Err Write) h.drawn;
  }
  own_of_files files lefts are (Err BundleLong) h = record {
    report = h.report;
    is_due = report_text_of_files options read document files lefts IsAnyReport h.report same are h.is_due;
    drawn = due_of_files options read document h.report files lefts scope old new same are (Err BundleLong) h.drawn;
  }

  of_files : (files lefts : List Source) → AllZip Knows files lefts → (result : Result DrawOutcome EngineFault)
      → OfFiles lefts scope (inquiry_of options read) result old new
      → OfFiles files scope (inquiry_of options document) result old new
  of_files files lefts are result (inl (alone, own)) = inl (
    streams_alone options read document (length lefts) (length files) same (sym (zip_length files lefts are)) alone,
    own_of_files files lefts are result own,
  )
  of_files files lefts are result (inr (beside, claimed)) = inr (
    λ alone. beside (streams_alone options document read (length files) (length lefts) (λ limit. sym (same limit))
        (zip_length files lefts are) alone),
    claimed_of_files files lefts are result claimed,
  )

module _ (options : Options) (document : File) (read : List ℕ) (files lefts : List Source) (IsUnread : Type 0)
    (scope : Scope) (old new : Option (List ℕ)) (is : IsReadOf read document.source) (are : AllZip Knows files lefts)
  where
    at : (result : Result DrawOutcome EngineFault) → OfFiles lefts scope (inquiry_of options read) result old new
        → OfDocument options document (λ inquiry. OfFiles files scope inquiry result old new)
    at result left =
        of_document options document read _ (λ inquiry. OfFiles files scope inquiry result old new) is
        (λ bytes same. of_files options read bytes scope old new same files lefts are result) left

    pub drawn_of_files : (result : Result DrawOutcome EngineFault)
        → DrawReadLeaves (OfFiles lefts scope (inquiry_of options read)) result old new
        → DrawLeaves options document IsUnread (OfFiles files scope) result old new
    drawn_of_files (Ok outcome) left = at (Ok outcome) left
    drawn_of_files (Err Memory) left = left
    drawn_of_files (Err Read) left = inr (at (Err Read) left)
    drawn_of_files (Err Write) left = at (Err Write) left
    drawn_of_files (Err BundleLong) left = at (Err BundleLong) left
