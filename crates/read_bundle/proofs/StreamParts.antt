-- Streams that are read one after another.
use Rattle.std.proofs.Common.{◌≡◌, ℕ, suc, ◌+◌, ◌<◌, ◌≤◌, Bool, true, false, List, [], ◌∷◌, ◌++◌, length, length-append, refl, sym, ap, ◌∙◌, subst, append-nil, append_assoc, arith, Err}
use Rattle.std.specs.Prelude.{nat_lt, IfOk, Ok, Result, Some}
use Rattle.pd_events.specs.Reads.{ReaderState, Reads}
use Rattle.read_traces.specs.Views.{trace_view}
use Rattle.pd_events.specs.Views.{result_view}
use Rattle.read_traces.specs.declared.event.Trace.{Trace}
use Rattle.pd_events.specs.declared.fault.StreamFault.{StreamFault}
use Rattle.def_format.specs.ReadingLaws.{FitsSession}
use Rattle.def_format.specs.Readings.{Ended, Ending, result_of}
use Rattle.pd_gather.specs.Views.{ReadingFits}
use Rattle.std.proofs.lemmas.Bool.Decides.{nat_tests}
use Rattle.std.proofs.lemmas.List.{length-map}
use Rattle.def_format.specs.Limits.{stream_count_limit}
use Rattle.def_format.specs.Names.{ProcessNames}
use Rattle.def_format.specs.Sessions.{StreamResult, TooManyStreams, session}
use Rattle.def_judgement.specs.Judgements.{AreResultsOf, ended_streams}
use Rattle.def_judgement.specs.Writes.{Source}
use Rattle.def_judgement.proofs.StreamResults.{ended_have_results, ended_streams_ended}
use Rattle.read_bundle.specs.PartsRead.{HasReadPart, HasReadStreams, IsResultOfPart}
use Rattle.read_bundle.specs.Steps.{AreParts, HasCut, HasParts, State}
use Rattle.read_bundle.proofs.PartSteps.{HasRest}

-- the results are those of the parts so far
pub record HasStreams (names : List ProcessNames) (begin left : Source) (first state : State)
    (began begins : Bool) (results : List StreamResult) : Type 0 where
  pub streams : List (List ℕ)
  pub are_results : AreResultsOf names (ended_streams streams) results
  pub goes : (input : Source) (closed : List (List ℕ)) → HasParts began input begin closed first
      → HasParts begins input left (closed ++ streams) state

pub no_streams : (names : List ProcessNames) (begin : Source) (first : State) (began : Bool)
    → HasStreams names begin begin first first began began []
no_streams names begin first began = record {
  streams = [];
  are_results = tt;
  goes = λ input closed has. subst (λ all. HasParts began input begin all first) (sym (append-nil closed)) has;
}

one_more : (names : List ProcessNames) (streams : List (List ℕ)) (results : List StreamResult) (part : List ℕ)
    (result : StreamResult) → AreResultsOf names (ended_streams streams) results → IsResultOfPart names result part
    → AreResultsOf names (ended_streams (streams ++ part ∷ [])) (results ++ result ∷ [])
one_more names [] [] part result are is = (is, tt)
one_more names [] (r ∷ results) part result are is = absurd are
one_more names (s ∷ streams) [] part result are is = absurd are
one_more names (s ∷ streams) (r ∷ results) part result are is =
    (are.0, one_more names streams results part result are.1 is)

pub next_stream : (names : List ProcessNames) (begin before after : Source) (first old new : State)
    (began begins others : Bool) (results : List StreamResult) (result : StreamResult) → begins ≡ true
    → HasStreams names begin before first old began begins results
    → HasReadPart (IsResultOfPart names result) before after old new others
    → HasStreams names begin after first new began others (results ++ result ∷ [])
next_stream names begin before after first old new began begins others results result is has read = record {
  streams = has.streams ++ read.part ∷ [];
  are_results = one_more names has.streams results read.part result has.are_results read.right;
  goes = λ input closed h.
      let here : HasParts true input before (closed ++ has.streams) old =
      subst (λ (b : Bool). HasParts b input before (closed ++ has.streams) old) is (has.goes input closed h) in
      subst (λ all. HasParts others input after all new) (append_assoc closed has.streams (read.part ∷ []))
      (read.goes input (closed ++ has.streams) here);
}

results_long : (names : List ProcessNames) (streams : List (List ℕ)) (results : List StreamResult)
    → AreResultsOf names (ended_streams streams) results → length streams ≡ length results
results_long names [] [] are = refl
results_long names [] (r ∷ results) are = absurd are
results_long names (s ∷ streams) [] are = absurd are
results_long names (s ∷ streams) (r ∷ results) are = ap suc (results_long names streams results are.1)

long_streams : (streams : List (List ℕ)) → length (ended_streams streams) ≡ length streams
long_streams streams = length-map streams _

pub all_streams : (names : List ProcessNames) (begin left : Source) (first state : State) (began begins : Bool)
    (results : List StreamResult) (count : ℕ) → begins ≡ false → count ≡ length results
    → HasStreams names begin left first state began begins results
    → HasReadStreams names begin first began count results
all_streams names begin left first state began begins results count is long has = λ input closed h. record {
  streams = has.streams;
  comes = record {
    given_results = results;
    are_results = has.are_results;
    same_session = ap (λ n. session names n results) (long
        ∙ sym (long_streams has.streams ∙ results_long names has.streams results has.are_results));
  };
  are_parts = subst (λ (b : Bool). HasParts b input left (closed ++ has.streams) state) is (has.goes input closed h);
}

too_many : (names : List ProcessNames) (count : ℕ) (results : List StreamResult) → stream_count_limit < count
    → session names count results ≡ Err TooManyStreams
too_many names count results over = go (nat_lt stream_count_limit count) refl
  where
    go : (b : Bool) → nat_lt stream_count_limit count ≡ b → session names count results ≡ Err TooManyStreams
    go true e = rw e refl
    go false e = absurd (grind (arith, nat_tests, e, over))

-- more streams than there may be were read, and the others skipped
pub too_many_streams : (names : List ProcessNames) (begin left : Source) (first state : State) (began begins : Bool)
    (results : List StreamResult) (count : ℕ) → begins ≡ true → stream_count_limit ≤ length results
    → stream_count_limit < count → HasStreams names begin left first state began begins results
    → ((input : Source) (closed : List (List ℕ)) → HasCut input left closed [] state → HasRest input closed)
    → HasReadStreams names begin first began count []
too_many_streams names begin left first state began begins results count is many over has skip = λ input closed h.
    let here : HasParts true input left (closed ++ has.streams) state =
    subst (λ (b : Bool). HasParts b input left (closed ++ has.streams) state) is (has.goes input closed h) in
    let rest = skip input (closed ++ has.streams) here in
    let all = has.streams ++ rest.0 in
    let given = ended_have_results names (ended_streams all) (ended_streams_ended all) in
    let long : length all ≡ length has.streams + length rest.0 = length-append has.streams rest.0 in
    let some = results_long names has.streams results has.are_results in
    record {
      streams = all;
      comes = record {
        given_results = given.0;
        are_results = given.1;
        same_session = too_many names count [] over ∙ sym (too_many names (length (ended_streams all)) given.0
            (omega (arith, long_streams all, long, some, many, rest.1)));
      };
      are_parts = subst (AreParts input) (append_assoc closed has.streams rest.0) rest.2;
    }

-- ---- the result of one stream

pub result_of_part : (names : List ProcessNames) (part : List ℕ) (state : ReaderState)
    (given : Result Trace StreamFault) → Some (result_view given) ≡ result_of state.reading
    → Reads state names Ended part → IsResultOfPart names (result_view given) part
result_of_part names part state given value reads = ap result_of (sym reads.same_reading) ∙ sym value

pub fits_part : (names : List ProcessNames) (part : List ℕ) (state : ReaderState) (given : Result Trace StreamFault)
    → IfOk given (λ trace. (names : List ProcessNames) (ending : Ending) (bytes : List ℕ)
    → Reads state names ending bytes → FitsSession names (trace_view trace)) → Reads state names Ended part
    → ReadingFits names given
fits_part names part state (Ok trace) fits reads = fits names Ended part reads
fits_part names part state (Err fault) fits reads = tt
