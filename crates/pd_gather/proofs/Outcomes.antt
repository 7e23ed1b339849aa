-- What the readers of all streams give.
use Rattle.std.proofs.Common.{◌≡◌, ℕ, zero, suc, ◌+◌, ◌<◌, List, [], ◌∷◌, ◌++◌, length, All, refl, sym, ◌∙◌, ap, subst, arith}
use Rattle.std.specs.Prelude.{Some, Result, Ok, Err, IfOk, slice_get}
use Rattle.std.specs.List.{AllZip}
use Rattle.std.proofs.lemmas.List.Elements.{All-cons}
use Rattle.def_format.specs.Names.{ProcessNames}
use Rattle.def_format.specs.Readings.{Ending, Reading, result_of, reading}
use Rattle.def_format.specs.ReadingLaws.{FitsSession}
use Rattle.def_format.specs.Sessions.{Interleaving, bytes_of, ending_of}
use Rattle.def_judgement.specs.Judgements.{RawStream, AreResultsOf}
use Rattle.def_judgement.specs.StreamResults.{OneListOfResults}
use Rattle.pd_events.specs.Reads.{ReaderState, Reads}
use Rattle.read_traces.specs.Views.{trace_view}
use Rattle.pd_events.specs.Views.{result_view}
use Rattle.read_traces.specs.declared.event.Trace.{Trace}
use Rattle.pd_events.specs.declared.fault.StreamFault.{StreamFault}
use Rattle.pd_gather.specs.Taken.{HasTaken, OrderDoesntMatter, raw_streams, raw_streams_from, raw_stream_of}
use Rattle.pd_gather.specs.Views.{ReadingFits, results_view}

-- what a reader gives: its reading's outcome, which fits the names of any session that it is a stream of
pub record Gives (reader : ReaderState) (given : Result Trace StreamFault) : Type 0 where
  pub value : Some (result_view given) ≡ result_of reader.reading
  pub fits : IfOk given (λ (trace : Trace). (names : List ProcessNames) (ending : Ending) (bytes : List ℕ)
      → Reads reader names ending bytes → FitsSession names (trace_view trace))

pub gives_push : (readers : List ReaderState) (room : List (Result Trace StreamFault)) (reader : ReaderState)
    (given : Result Trace StreamFault) → AllZip Gives readers room → Gives reader given
    → AllZip Gives (readers ++ reader ∷ []) (room ++ given ∷ [])
gives_push [] [] reader given all one = (one, tt)
gives_push [] (y ∷ ys) reader given all one = absurd all
gives_push (x ∷ xs) [] reader given all one = absurd all
gives_push (x ∷ xs) (y ∷ ys) reader given all one = (all.0, gives_push xs ys reader given all.1 one)

-- the streams from this one on
abbrev pub HasFrom : List ProcessNames → Interleaving → ℕ → List ReaderState → Type 0
HasFrom names steps first core = (i : ℕ) (reader : ReaderState) → slice_get core i ≡ Some reader
    → Reads reader names (ending_of (first + i) steps) (bytes_of (first + i) steps)

at : (names : List ProcessNames) (steps : Interleaving) (reader : ReaderState) (i j : ℕ) → i ≡ j
    → Reads reader names (ending_of i steps) (bytes_of i steps)
    → Reads reader names (ending_of j steps) (bytes_of j steps)
at names steps reader i j e = subst (λ (k : ℕ). Reads reader names (ending_of k steps) (bytes_of k steps)) e

later_from : (names : List ProcessNames) (steps : Interleaving) (first : ℕ) (x : ReaderState) (xs : List ReaderState)
    → HasFrom names steps first (x ∷ xs) → HasFrom names steps (suc first) xs
later_from names steps first x xs has =
    λ i reader e. at names steps reader (first + suc i) (suc first + i) (omega arith) (has (suc i) reader e)

head_from : (names : List ProcessNames) (steps : Interleaving) (first : ℕ) (x : ReaderState) (xs : List ReaderState)
    → HasFrom names steps first (x ∷ xs) → Reads x names (ending_of first steps) (bytes_of first steps)
head_from names steps first x xs has = at names steps x (first + 0) first (omega arith) (has 0 x refl)

-- the outcome of a reader is that of the reading it stands for
pub given_result : (names : List ProcessNames) (ending : Ending) (bytes : List ℕ) (reader : ReaderState)
    (given : Result Trace StreamFault) → Reads reader names ending bytes → Gives reader given
    → result_of (reading names ending bytes) ≡ Some (result_view given)
given_result names ending bytes reader given r gives =
    sym (gives.value ∙ ap (λ (x : Reading). result_of x) r.same_reading)

results_from : (names : List ProcessNames) (steps : Interleaving) (first : ℕ) (core : List ReaderState)
    (room : List (Result Trace StreamFault)) → HasFrom names steps first core → AllZip Gives core room
    → AreResultsOf names (raw_streams_from steps first (length core)) (results_view room)
results_from names steps first [] [] has all = tt
results_from names steps first [] (y ∷ ys) has all = absurd all
results_from names steps first (x ∷ xs) [] has all = absurd all
results_from names steps first (x ∷ xs) (y ∷ ys) has all = (
  given_result names (ending_of first steps) (bytes_of first steps) x y (head_from names steps first x xs has) all.0,
  results_from names steps (suc first) xs ys (later_from names steps first x xs has) all.1,
)

pub one_fits : (names : List ProcessNames) (ending : Ending) (bytes : List ℕ) (reader : ReaderState)
    (given : Result Trace StreamFault) → Reads reader names ending bytes → Gives reader given → ReadingFits names given
one_fits names ending bytes reader (Ok trace) r gives = gives.fits names ending bytes r
one_fits names ending bytes reader (Err fault) r gives = tt

fit_all : (names : List ProcessNames) (steps : Interleaving) (first : ℕ) (core : List ReaderState)
    (room : List (Result Trace StreamFault)) → HasFrom names steps first core → AllZip Gives core room
    → All (ReadingFits names) room
fit_all names steps first core [] has all = λ k d lt. absurd (omega arith)
fit_all names steps first [] (y ∷ ys) has all = absurd all
fit_all names steps first (x ∷ xs) (y ∷ ys) has all =
    All-cons (ReadingFits names) y ys
    (one_fits names (ending_of first steps) (bytes_of first steps) x y (head_from names steps first x xs has) all.0)
    (fit_all names steps (suc first) xs ys (later_from names steps first x xs has) all.1)

pub from_taken : (names : List ProcessNames) (steps : Interleaving) (core : List ReaderState)
    → HasTaken core names steps → HasFrom names steps 0 core
from_taken names steps core taken = λ i reader e. at names steps reader i (0 + i) (omega arith) (taken.each i reader e)

pub outcomes_are_results : (core : List ReaderState) (room : List (Result Trace StreamFault)) → AllZip Gives core room
    → (names : List ProcessNames) (steps : Interleaving) → HasTaken core names steps
    → AreResultsOf names (raw_streams_from steps 0 (length core)) (results_view room)
outcomes_are_results core room all names steps taken =
    results_from names steps 0 core room (from_taken names steps core taken) all

pub outcomes_fit : (core : List ReaderState) (room : List (Result Trace StreamFault)) → AllZip Gives core room
    → (names : List ProcessNames) (steps : Interleaving) → HasTaken core names steps → All (ReadingFits names) room
outcomes_fit core room all names steps taken = fit_all names steps 0 core room (from_taken names steps core taken) all

pub as_many : (core : List ReaderState) (room : List (Result Trace StreamFault)) → AllZip Gives core room
    → length room ≡ length core
as_many [] [] all = refl
as_many [] (y ∷ ys) all = absurd all
as_many (x ∷ xs) [] all = absurd all
as_many (x ∷ xs) (y ∷ ys) all = ap suc (as_many xs ys all.1)

-- ---- the order in which inputs come

same_given : (steps others : Interleaving) (first count : ℕ)
    → ((i : ℕ) → i < first + count → bytes_of i steps ≡ bytes_of i others)
    → ((i : ℕ) → i < first + count → ending_of i steps ≡ ending_of i others) → raw_streams_from steps first count
    ≡ raw_streams_from others first count
same_given steps others first zero bytes endings = refl
same_given steps others first (suc count) bytes endings =
    ap (λ (stream : RawStream). stream ∷ raw_streams_from steps (suc first) count)
    (rw (bytes first (omega arith), endings first (omega arith)) refl)
    ∙ ap (λ (rest : List RawStream). raw_stream_of others first ∷ rest)
    (same_given steps others (suc first) count (λ i lt. bytes i (omega arith)) (λ i lt. endings i (omega arith)))

pub order_doesnt_matter : OneListOfResults → OrderDoesntMatter
order_doesnt_matter single = λ names count steps others bytes endings results other_results is other_is.
    let same : raw_streams count steps ≡ raw_streams count others =
    same_given steps others 0 count (λ i lt. bytes i (omega arith)) (λ i lt. endings i (omega arith)) in
    single names (raw_streams count others) results other_results
    (subst (λ (streams : List RawStream). AreResultsOf names streams results) same is) other_is
