-- What is left by the bytes that were read is what is to be left by the files.
use Rattle.std.proofs.Common.{◌≡◌, ℕ, suc, zero, List, [], ◌∷◌, length, map, take, Option, Some, Ok, refl, sym, subst, inl, inr, false, arith}
use Rattle.std.specs.Prelude.{All, codes}
use Rattle.std.specs.List.{AllZip}
use Rattle.std.specs.Io.KnownBytes.{Appends}
use Rattle.def_format.specs.Documents.{Document, Inquiry, Options, inquiry_of}
use Rattle.def_judgement.specs.Writes.{IsWholeInput, Source}
use Rattle.def_recordings.specs.Recordings.{IsRefusedRun, IsRun, of_document as of_refused, of_streams, recorded_process_limit}
use Rattle.def_format.specs.Reports.{Refusal}
use Rattle.app_arguments.specs.Statuses.{Failed, File, MayBeUnread, OfDocument, WriteFailure, sources_of}
use Rattle.app_host.specs.FileSources.{IsReadOf, Knows, SameOutline}
use Rattle.app_host.proofs.DocumentPrefixes.{document_within, refusal_within}
use Rattle.app_host.proofs.FilesRead.{of_document, of_known_fate, up_to_weaker, whole_of_file}
use Rattle.app_host.proofs.UnreadFiles.{keeps_same}
use Rattle.app_host.proofs.WrittenSoFar.{up_to}
use Rattle.judge_reduction.specs.ReducedSessions.{texts_view}
use Rattle.app_reduce.specs.Files.{ComesOfFiles, IsSessionOfFiles, RunLeaves, reduce_ending}
use Rattle.app_reduce.specs.Outcomes.{ComesOf, IsMade, line_of, outcome_text}
use Rattle.app_reduce.specs.Reduced.{IsAnyText, ReduceLeaves}
use Rattle.app_reduce.specs.ReducedTexts.{IsReducedText, IsRefusedText, IsUnmadeText, OfStreams, counts_line}
use Rattle.app_reduce.specs.declared.outcome.MadeSession.{MadeSession}
use Rattle.app_reduce.specs.declared.outcome.Outcome.{Outcome}
use Rattle.app_reduce.specs.declared.outcome.Outcome.TheVariants.{Made, Refused, Unmade}

-- ---- the texts

pub made_text : (inquiry : Inquiry) (streams : List (List ℕ)) (made : MadeSession) → IsMade inquiry streams made
    → IsReducedText inquiry streams (outcome_text (Made made))
made_text inquiry streams made is = record {
  document = is.document;
  recorded = is.recorded;
  first = line_of (codes "run") made.run;
  second = counts_line (codes "session") (length made.session.places.items) made.session.events made.session.messages;
  is_first = record {
    is_run = is.is_run;
    messages = made.run.messages;
    has_messages = is.counts.all_messages;
    is_line = rw (is.counts.all_processes, is.counts.all_events) refl;
  };
  is_second = record {
    bytes = made.session.document.items;
    streams = texts_view made.session.streams.items;
    is_reduced = is.reduction.reduced;
    messages = made.session.messages;
    has_messages = is.reduction.all_messages;
    is_line = rw (is.reduction.same_places, is.reduction.all_events) refl;
  };
  is_text = refl;
}

any_text : (inquiry : Inquiry) (sources : List Source) (outcome : Outcome) → ComesOf inquiry sources outcome
    → IsAnyText inquiry sources (outcome_text outcome)
any_text inquiry sources (Refused report) (inl refused) = inr (inl refused)
any_text inquiry sources (Refused report) (inr refused) = inr (inr (inl refused))
any_text inquiry sources (Unmade run) unmade = inr (inr (inr unmade))
any_text inquiry sources (Made made) (streams, are, is) = inl (streams, are, made_text inquiry streams made is)

-- the text is written
all_left : (inquiry : Inquiry) (sources : List Source) (outcome : Outcome) (old new : Option (List ℕ))
    → Appends old new (outcome_text outcome) → ComesOf inquiry sources outcome
    → ReduceLeaves inquiry sources (reduce_ending (Ok outcome)) old new
all_left inquiry sources (Refused report) old new written (inl refused) = (_, inl refused, written)
all_left inquiry sources (Refused report) old new written (inr refused) = (_, inr (inl refused), written)
all_left inquiry sources (Unmade run) old new written unmade = (_, inr (inr unmade), written)
all_left inquiry sources (Made made) old new written (streams, are, is) =
    (_, (streams, are, made_text inquiry streams made is), written)

-- ---- what is left on the output

module _ (files : List ℕ → File) (options : Options) (document : List ℕ) (streams : List (List ℕ))
    (outcome : Outcome) (come : ComesOfFiles files options document streams outcome) (old new : Option (List ℕ))
  where
    holding : (P : Inquiry → Type 0)
        → ((inquiry : Inquiry) → ComesOf inquiry (sources_of (map files streams)) outcome → P inquiry)
        → OfDocument options (files document) P
    holding P go = record { bytes = come.bytes; whole = come.whole; holds = go _ come.holds }

    pub written : Appends old new (outcome_text outcome)
        → RunLeaves files options document streams (reduce_ending (Ok outcome)) old new
    written appends =
        by outcome come (λ inquiry. all_left inquiry (sources_of (map files streams)) outcome old new appends)
      where
        by : (o : Outcome) → ComesOfFiles files options document streams o
            → ((inquiry : Inquiry) → ComesOf inquiry (sources_of (map files streams)) o
            → ReduceLeaves inquiry (sources_of (map files streams)) (reduce_ending (Ok o)) old new)
            → RunLeaves files options document streams (reduce_ending (Ok o)) old new
        by (Refused report) c go = record { bytes = c.bytes; whole = c.whole; holds = go _ c.holds }
        by (Unmade run) c go = record { bytes = c.bytes; whole = c.whole; holds = go _ c.holds }
        by (Made made) c go = record { bytes = c.bytes; whole = c.whole; holds = go _ c.holds }

    pub cut : (count : ℕ) → Appends old new (take count (outcome_text outcome))
        → RunLeaves files options document streams (Failed WriteFailure) old new
    cut count appends =
        holding (λ inquiry. ReduceLeaves inquiry (sources_of (map files streams)) (Failed WriteFailure) old new)
        (λ inquiry h. inr (up_to_weaker (λ text. text ≡ outcome_text outcome)
        (IsAnyText inquiry (sources_of (map files streams))) old new
        (λ text same. subst (IsAnyText inquiry (sources_of (map files streams))) (sym same)
        (any_text inquiry (sources_of (map files streams)) outcome h))
        (up_to (outcome_text outcome) old new count appends)))

-- the folder isn't written
pub unsaved : (files : List ℕ → File) (options : Options) (document : List ℕ) (streams : List (List ℕ))
    (outcome : Outcome) → ComesOfFiles files options document streams outcome → (old : Option (List ℕ))
    → RunLeaves files options document streams (Failed WriteFailure) old old
unsaved files options document streams outcome come old = record {
  bytes = come.bytes;
  whole = come.whole;
  holds = inl (keeps_same old);
}

-- the folder isn't made
pub unreserved : (files : List ℕ → File) (options : Options) (document : List ℕ) (streams : List (List ℕ))
    (read : List ℕ) → IsReadOf read (files document).source → (old : Option (List ℕ))
    → RunLeaves files options document streams (Failed WriteFailure) old old
unreserved files options document streams read is old =
    of_document options (files document) read (Unit {0})
    (λ inquiry. ReduceLeaves inquiry (sources_of (map files streams)) (Failed WriteFailure) old old) is
    (λ bytes same _. inl (keeps_same old)) tt

-- the session that is written has the answers of the run
pub session_of_files : (files : List ℕ → File) (options : Options) (document : List ℕ) (streams : List (List ℕ))
    (made : MadeSession) → ComesOfFiles files options document streams (Made made)
    → IsSessionOfFiles files options document streams made.session.document.items
    (texts_view made.session.streams.items)
session_of_files files options document streams made come = record {
  bytes = come.bytes;
  whole = come.whole;
  holds = let h = come.holds in
      (h.0, h.1, (h.2.document, h.2.recorded, h.2.is_run, h.2.reduction.reduced));
}

-- ---- what comes of the bytes that were read comes of the files

module _ (options : Options) (read document : List ℕ) (same : SameOutline options read document) where
  same_run : (streams : List (List ℕ)) (of : Document) (recorded : _)
      → IsRun (inquiry_of options read) streams of recorded → IsRun (inquiry_of options document) streams of recorded
  same_run streams of recorded is = record {
    is_document = document_within recorded_process_limit options read document of same is.is_document;
    results = is.results;
    are_results = is.are_results;
    traces = is.traces;
    joined = is.joined;
    formed = is.formed;
    is_recorded = is.is_recorded;
  }

  same_refused : (streams : List (List ℕ)) (refusal : Refusal)
      → IsRefusedRun (inquiry_of options read) streams refusal
      → IsRefusedRun (inquiry_of options document) streams refusal
  same_refused streams refusal (of_refused fault is tells) =
      of_refused fault (refusal_within recorded_process_limit options read document fault same is) tells
  same_refused streams refusal (of_streams of results is are reported) =
      of_streams of results (document_within recorded_process_limit options read document of same is) are reported

  same_refused_text : (streams : List (List ℕ)) (text : List ℕ)
      → IsRefusedText (inquiry_of options read) streams text → IsRefusedText (inquiry_of options document) streams text
  same_refused_text streams text is = record {
    refusal = is.refusal;
    is_refused = same_refused streams is.refusal is.is_refused;
    is_text = is.is_text;
  }

  same_unmade_text : (streams : List (List ℕ)) (text : List ℕ)
      → IsUnmadeText (inquiry_of options read) streams text → IsUnmadeText (inquiry_of options document) streams text
  same_unmade_text streams text is = record {
    document = is.document;
    recorded = is.recorded;
    first = is.first;
    is_first = record {
      is_run = same_run streams is.document is.recorded is.is_first.is_run;
      messages = is.is_first.messages;
      has_messages = is.is_first.has_messages;
      is_line = is.is_first.is_line;
    };
    is_text = is.is_text;
  }

  same_made : (streams : List (List ℕ)) (made : MadeSession) → IsMade (inquiry_of options read) streams made
      → IsMade (inquiry_of options document) streams made
  same_made streams made is = record {
    document = is.document;
    recorded = is.recorded;
    is_run = same_run streams is.document is.recorded is.is_run;
    counts = is.counts;
    reduction = is.reduction;
  }

  module _ (files lefts : List Source) (are : AllZip Knows files lefts) where
    of_streams_read : (P Q : List (List ℕ) → Type 0) → ((streams : List (List ℕ)) → P streams → Q streams)
        → OfStreams lefts P → OfStreams files Q
    of_streams_read P Q go (streams, read, is) = (streams, wholes files lefts streams are read, go streams is)
      where
        wholes : (files lefts : List Source) (streams : List (List ℕ)) → AllZip Knows files lefts
            → AllZip IsWholeInput lefts streams → AllZip IsWholeInput files streams
        wholes [] [] streams are read = read
        wholes [] (l ∷ lefts) streams are read = absurd are
        wholes (f ∷ files) [] streams are read = absurd are
        wholes (f ∷ files) (l ∷ lefts) [] are read = absurd read
        wholes (f ∷ files) (l ∷ lefts) (s ∷ streams) are read =
            (whole_of_file f l s are.0 read.0, wholes files lefts streams are.1 read.1)

    pub comes_of_files : (outcome : Outcome) → ComesOf (inquiry_of options read) lefts outcome
        → ComesOf (inquiry_of options document) files outcome
    comes_of_files (Refused report) (inl h) = inl (λ streams. same_refused_text streams _ (h streams))
    comes_of_files (Refused report) (inr h) =
        inr (of_streams_read _ _ (λ streams. same_refused_text streams _) h)
    comes_of_files (Unmade run) h = of_streams_read _ _ (λ streams. same_unmade_text streams _) h
    comes_of_files (Made made) h = of_streams_read _ _ (λ streams. same_made streams made) h

pub of_read : (files : List ℕ → File) (options : Options) (document : List ℕ) (streams : List (List ℕ))
    (read : List ℕ) (lefts : List Source) (outcome : Outcome) → IsReadOf read (files document).source
    → AllZip Knows (sources_of (map files streams)) lefts → ComesOf (inquiry_of options read) lefts outcome
    → ComesOfFiles files options document streams outcome
of_read files options document streams read lefts outcome is are come =
    of_document options (files document) read (ComesOf (inquiry_of options read) lefts outcome)
    (λ inquiry. ComesOf inquiry (sources_of (map files streams)) outcome) is
    (λ bytes same. comes_of_files options read bytes same (sources_of (map files streams)) lefts are outcome) come

-- ---- what may be unread

-- no file that is read but the document may fail, or else some of all
pub unread_all : (opened : List File) (document : File) (streams : List File)
    → MayBeUnread opened (document ∷ []) → MayBeUnread opened (document ∷ streams)
unread_all opened document streams unread all_open all_read = unread all_open only
  where
    only : All (λ (file : File). file.source.fails ≡ Some false) (document ∷ [])
    only zero d lt = all_read 0 document (omega arith)
    only (suc i) d lt = absurd (omega (arith, lt))

-- the readers of files that don't fail don't
fates : (files : List File) (lefts : List Source) → AllZip Knows (sources_of files) lefts
    → All (λ (file : File). file.source.fails ≡ Some false) files
    → All (λ (source : Source). source.fails ≡ Some false) lefts
fates [] [] are all = λ i d lt. absurd (omega (arith, lt))
fates [] (l ∷ lefts) are all = absurd are
fates (f ∷ files) [] are all = absurd are
fates (f ∷ files) (l ∷ lefts) are all = go (fates files lefts are.1 (λ i d lt. all (suc i) d (omega (arith, lt))))
  where
    go : All (λ (source : Source). source.fails ≡ Some false) lefts
        → All (λ (source : Source). source.fails ≡ Some false) (l ∷ lefts)
    go rest zero d lt = of_known_fate f.source l false are.0 (all 0 f (omega arith))
    go rest (suc i) d lt = rest i d (omega (arith, lt))

-- a stream isn't read
pub unread_streams : (opened : List File) (document : File) (streams : List File) (lefts : List Source)
    → AllZip Knows (sources_of streams) lefts → ¬ All (λ (source : Source). source.fails ≡ Some false) lefts
    → MayBeUnread opened (document ∷ streams)
unread_streams opened document streams lefts are unread all_open all_read =
    unread (fates streams lefts are (λ i d lt. all_read (suc i) d (omega (arith, lt))))
