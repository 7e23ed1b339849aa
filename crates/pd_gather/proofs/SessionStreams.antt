-- What the streams of a session come to, if they were read and if they are too many for that.
use Rattle.std.proofs.Common.{◌≡◌, ℕ, ◌<◌, Bool, true, false, List, [], ◌∷◌, length, refl, sym, inl, inr, ◌∙◌, ap, subst, append-nil, arith}
use Rattle.std.specs.Prelude.{◌⊎◌, nat_lt, IfSome, Option, None, Some, Err}
use Rattle.std.specs.List.{AllZip}
use Rattle.std.proofs.lemmas.Bool.Decides.{nat_tests}
use Rattle.std.proofs.lemmas.Slice.Zip.{AllZip-long}
use Rattle.def_format.specs.Limits.{stream_count_limit}
use Rattle.def_format.specs.Names.{ProcessNames}
use Rattle.def_format.specs.Histories.{Row}
use Rattle.def_format.specs.Readings.{Ending, Open, Ended, Failed, IsClosed, reading, result_of}
use Rattle.def_format.specs.Sessions.{StreamResult, session, TooManyStreams}
use Rattle.def_format.proofs.ReadingFacts.{closed_stays_lem}
use Rattle.def_judgement.specs.Judgements.{AreResultsOf, IsResultOf, RawStream}
use Rattle.def_judgement.specs.Writes.{FailsAfter, IsGivenAs, IsGivenBy, Source}
use Rattle.def_judgement.proofs.StreamResults.{ended_have_results, given_ended}
use Rattle.def_judgement.proofs.WholeStreams.{all_given, all_given_by, all_left_unread, all_of, all_unread_given}
use Rattle.pd_gather.specs.ReadStreams.{AreReadOf, ComesTo, IsOwnEnd}

-- ---- too many streams

too_many : (names : List ProcessNames) (count : ℕ) (results : List StreamResult) → stream_count_limit < count
    → session names count results ≡ Err TooManyStreams
too_many names count results over = go (nat_lt stream_count_limit count) refl
  where
    go : (b : Bool) → nat_lt stream_count_limit count ≡ b → session names count results ≡ Err TooManyStreams
    go true e = rw e refl
    go false e = absurd (grind (arith, nat_tests, e, over))

-- too many streams come to the same whatever they gave
unread : (names : List ProcessNames) (streams : List RawStream) (count : ℕ) (results given : List StreamResult)
    → stream_count_limit < count → length streams ≡ count → AreResultsOf names streams given
    → ComesTo names streams count results
unread names streams count results given over long are = record {
  given_results = given;
  are_results = are;
  same_session = too_many names count results over
      ∙ sym (too_many names (length streams) given (omega (arith, over, long)));
}

-- what some sources gave comes to this
abbrev pub GivesSession : List ProcessNames → List Source → ℕ → List StreamResult → Type 0
GivesSession names inputs count results =
    (streams : List RawStream) × AllZip IsGivenAs inputs streams × ComesTo names streams count results

pub unread_comes : (names : List ProcessNames) (inputs : List Source) (count : ℕ) (results : List StreamResult)
    → stream_count_limit < count → length inputs ≡ count → GivesSession names inputs count results
unread_comes names inputs count results over long =
    let streams = all_left_unread inputs in
    let given = all_unread_given inputs in
    let some = ended_have_results names streams (given_ended inputs streams given) in (
      streams,
      given,
      unread names streams count results some.0 over (AllZip-long IsGivenAs inputs streams given ∙ long) some.1,
    )

-- ---- streams that were read

read_comes_to : (names : List ProcessNames) (streams : List RawStream) (count : ℕ) (results : List StreamResult)
    → AreResultsOf names streams results → count ≡ length streams → ComesTo names streams count results
read_comes_to names streams count results are long =
    record { given_results = results; are_results = are; same_session = ap (λ n. session names n results) long }

-- how a source ends of which it is known whether a read fails, and else as the stream did
due_ending : Option Bool → Ending → Ending
due_ending (Some true) ending = Failed
due_ending (Some false) ending = Ended
due_ending None ending = ending

-- all bytes that are known of a source of which that is known, and else those of the stream
due_bytes : Option Bool → Option (List ℕ) → List ℕ → List ℕ
due_bytes (Some fails) input bytes = all_of input bytes
due_bytes None input bytes = bytes

-- what stands for a stream that was read: it isn't broken off where it was closed
stands_for : Source → RawStream → RawStream
stands_for source stream = record {
  ending = due_ending source.fails stream.ending;
  bytes = due_bytes source.fails source.bytes stream.bytes;
}

stands_given_by : (input : Option (List ℕ)) (fails : Option Bool) (stream : RawStream) → IsGivenBy input stream
    → IsGivenBy input (record {
      ending = due_ending fails stream.ending;
      bytes = due_bytes fails input stream.bytes;
    })
unfolding due_ending due_bytes
stands_given_by input (Some true) stream given = all_given_by input stream.bytes Failed (λ (e : Failed ≡ Open). cc)
stands_given_by input (Some false) stream given = all_given_by input stream.bytes Ended (λ (e : Ended ≡ Open). cc)
stands_given_by input None stream given = given

due_end : (fails : Option Bool) (ending : Ending) → fails ≡ Some false → due_ending fails ending ≡ Ended
unfolding due_ending
due_end (Some true) ending e = cc
due_end (Some false) ending e = refl
due_end None ending e = cc

due_failure : (fails : Option Bool) (ending : Ending) → fails ≡ Some true → due_ending fails ending ≡ Failed
unfolding due_ending
due_failure (Some true) ending e = refl
due_failure (Some false) ending e = cc
due_failure None ending e = cc

due_all : (fails : Option Bool) (input : Option (List ℕ)) (bytes : List ℕ) → fails ≡ Some true
    → IfSome input (λ known. due_bytes fails input bytes ≡ known)
unfolding due_bytes
due_all (Some fails) input bytes e = all_given input bytes
due_all None input bytes e = cc

stands_given : (source : Source) (stream : RawStream) → IsGivenBy source.bytes stream
    → IsGivenAs source (stands_for source stream)
unfolding stands_for
stands_given source stream given = record {
  given_by = stands_given_by source.bytes source.fails stream given;
  ends = due_end source.fails stream.ending;
  fails = due_failure source.fails stream.ending;
  fails_after = due_all source.fails source.bytes stream.bytes;
}

-- how a stream ends that was closed by its bytes is no matter
early : (names : List ProcessNames) (ending : Ending) (bytes : List ℕ) → IsClosed (reading names Open bytes).stop
    → reading names ending bytes ≡ reading names Open bytes
early names ending bytes closed =
    subst (λ (more : List ℕ). reading names ending more ≡ reading names Open bytes) (append-nil bytes)
    (closed_stays_lem names ending bytes [] closed)

-- a stream that was closed by its bytes stands for all bytes of its source, however it ends
closed_reading : (names : List ProcessNames) (input : Option (List ℕ)) (stream : RawStream) (due : Ending)
    → IsGivenBy input stream → IsClosed (reading names Open stream.bytes).stop
    → reading names stream.ending stream.bytes ≡ reading names due (all_of input stream.bytes)
closed_reading names None stream due given closed =
    early names stream.ending stream.bytes closed ∙ sym (early names due stream.bytes closed)
closed_reading names (Some known) stream due given closed =
    early names stream.ending stream.bytes closed
    ∙ sym (closed_stays_lem names due stream.bytes given.prefix.0 closed)
    ∙ ap (λ (all : List ℕ). reading names due all) (sym given.prefix.1)

-- a stream that has all known bytes stands for them
same_bytes : (input : Option (List ℕ)) (bytes : List ℕ) → IfSome input (λ known. bytes ≡ known)
    → bytes ≡ all_of input bytes
same_bytes None bytes same = refl
same_bytes (Some known) bytes same = same

-- a source of which no read fails
sound_reading : (names : List ProcessNames) (input : Option (List ℕ)) (ending : Ending) (bytes : List ℕ)
    → IsGivenBy input (record { ending = ending; bytes = bytes })
    → IsOwnEnd names (record { bytes = input; fails = Some false }) (record { ending = ending; bytes = bytes })
    → reading names ending bytes ≡ reading names Ended (all_of input bytes)
sound_reading names input Open bytes given own = absurd (given.stopped refl)
sound_reading names input Ended bytes given own =
    ap (λ (all : List ℕ). reading names Ended all) (same_bytes input bytes (given.whole refl))
sound_reading names input Failed bytes given own = go (own.fails refl)
  where
    go : IsClosed (reading names Open bytes).stop
        ⊎ FailsAfter (record { bytes = input; fails = Some false }) (λ all. bytes ≡ all)
        → reading names Failed bytes ≡ reading names Ended (all_of input bytes)
    go (inl closed) = closed_reading names input (record { ending = Failed; bytes = bytes }) Ended given closed
    go (inr failed) = absurd (failed.may refl)

-- one of which a read is known to fail
failing_reading : (names : List ProcessNames) (input : Option (List ℕ)) (ending : Ending) (bytes : List ℕ)
    → IsGivenBy input (record { ending = ending; bytes = bytes })
    → IsOwnEnd names (record { bytes = input; fails = Some true }) (record { ending = ending; bytes = bytes })
    → reading names ending bytes ≡ reading names Failed (all_of input bytes)
failing_reading names input Open bytes given own = absurd (given.stopped refl)
failing_reading names input Ended bytes given own = absurd (own.ends refl refl)
failing_reading names input Failed bytes given own = go (own.fails refl)
  where
    go : IsClosed (reading names Open bytes).stop
        ⊎ FailsAfter (record { bytes = input; fails = Some true }) (λ all. bytes ≡ all)
        → reading names Failed bytes ≡ reading names Failed (all_of input bytes)
    go (inl closed) = closed_reading names input (record { ending = Failed; bytes = bytes }) Failed given closed
    go (inr failed) = ap (λ (all : List ℕ). reading names Failed all) (same_bytes input bytes (failed.all refl))

stands_reading : (names : List ProcessNames) (input : Option (List ℕ)) (fails : Option Bool) (stream : RawStream)
    → IsGivenBy input stream → IsOwnEnd names (record { bytes = input; fails = fails }) stream
    → reading names stream.ending stream.bytes
    ≡ reading names (due_ending fails stream.ending) (due_bytes fails input stream.bytes)
unfolding due_ending due_bytes
stands_reading names input (Some true) stream given own =
    failing_reading names input stream.ending stream.bytes given own
stands_reading names input (Some false) stream given own =
    sound_reading names input stream.ending stream.bytes given own
stands_reading names input None stream given own = refl

stands_gives : (names : List ProcessNames) (source : Source) (stream : RawStream) (result : StreamResult)
    → IsGivenBy source.bytes stream → IsOwnEnd names source stream → IsResultOf names stream result
    → IsResultOf names (stands_for source stream) result
unfolding stands_for
stands_gives names source stream result given own is =
    sym (ap result_of (stands_reading names source.bytes source.fails stream given own)) ∙ is

-- the streams that stand for those that were read, and what they come to
stand_for : (names : List ProcessNames) (inputs : List Source) (streams : List RawStream)
    (results : List StreamResult) → AllZip (λ source. IsGivenBy source.bytes) inputs streams
    → AllZip (IsOwnEnd names) inputs streams → AreResultsOf names streams results
    → (whole : List RawStream) × AllZip IsGivenAs inputs whole × AreResultsOf names whole results
stand_for names [] [] results given own are = ([], tt, are)
stand_for names [] (s ∷ streams) results given own are = absurd given
stand_for names (x ∷ inputs) [] results given own are = absurd given
stand_for names (x ∷ inputs) (s ∷ streams) [] given own are = absurd are
stand_for names (x ∷ inputs) (s ∷ streams) (y ∷ results) given own are =
    let later = stand_for names inputs streams results given.1 own.1 are.1 in (
      stands_for x s ∷ later.0,
      (stands_given x s given.0, later.1),
      (stands_gives names x s y given.0 own.0 are.0, later.2),
    )

pub read_comes : (names : List ProcessNames) (inputs : List Source) (count : ℕ) (results : List StreamResult)
    (rows : List Row) → AreReadOf names inputs results rows → count ≡ length inputs
    → GivesSession names inputs count results
read_comes names inputs count results rows read long =
    let whole = stand_for names inputs read.streams results read.are_given read.own_ends read.are_results in (
      whole.0,
      whole.1,
      read_comes_to names whole.0 count results whole.2
          (long ∙ sym (AllZip-long IsGivenAs inputs whole.0 whole.1)),
    )
