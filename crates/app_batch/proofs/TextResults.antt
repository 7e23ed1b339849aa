-- What streams that are all there give.
use Rattle.std.proofs.Common.{◌≡◌, ℕ, suc, ◌+◌, ◌<◌, List, [], ◌∷◌, ◌++◌, Some, Ok, Err, ap, arith, get_or, length, map, subst, sym, take, string_bytes, ◌∙◌}
use Rattle.std.specs.Prelude.{IfOk, Result, String}
use Rattle.std.specs.Global.{Global}
use Rattle.std.proofs.Math.Seq.{take-suc}
use Rattle.std.proofs.lemmas.List.{length-map, map-append}
use Rattle.def_format.specs.Documents.{Document, Inquiry, IsDocument}
use Rattle.def_format.specs.Reports.{Report}
use Rattle.def_format.specs.Names.{ProcessNames}
use Rattle.def_format.specs.ReadingLaws.{FitsSession}
use Rattle.def_format.specs.Readings.{Ended, Ending, result_of}
use Rattle.def_format.specs.Sessions.{StreamResult}
use Rattle.def_judgement.specs.Judgements.{AreResultsOf, IsJudgement, IsReportOfResults, IsResultOf, ended_stream, ended_streams, of_read}
use Rattle.pd_events.specs.Reads.{ReaderState, Reads}
use Rattle.pd_events.specs.Views.{result_view}
use Rattle.pd_events.specs.declared.fault.StreamFault.{StreamFault}
use Rattle.pd_gather.specs.Views.{ReadingFits, results_view}
use Rattle.read_traces.specs.Views.{trace_view}
use Rattle.read_traces.specs.declared.event.Trace.{Trace}

pub result_of_text : (names : List ProcessNames) (bytes : List ℕ) (state : ReaderState)
    (given : Result Trace StreamFault) → Some (result_view given) ≡ result_of state.reading
    → Reads state names Ended bytes → IsResultOf names (ended_stream bytes) (result_view given)
result_of_text names bytes state given value reads = ap result_of (sym reads.same_reading) ∙ sym value

pub fits_text : (names : List ProcessNames) (bytes : List ℕ) (state : ReaderState) (given : Result Trace StreamFault)
    → IfOk given (λ trace. (names : List ProcessNames) (ending : Ending) (bytes : List ℕ)
    → Reads state names ending bytes → FitsSession names (trace_view trace)) → Reads state names Ended bytes
    → ReadingFits names given
fits_text names bytes state (Ok trace) fits reads = fits names Ended bytes reads
fits_text names bytes state (Err fault) fits reads = tt

-- one more
pub results_on : (names : List ProcessNames) (streams : List (List ℕ)) (results : List StreamResult)
    (bytes : List ℕ) (result : StreamResult) → AreResultsOf names (ended_streams streams) results
    → IsResultOf names (ended_stream bytes) result
    → AreResultsOf names (ended_streams (streams ++ bytes ∷ [])) (results ++ result ∷ [])
results_on names [] [] bytes result are is = (is, tt)
results_on names [] (r ∷ results) bytes result are is = absurd are
results_on names (s ∷ streams) [] bytes result are is = absurd are
results_on names (s ∷ streams) (r ∷ results) bytes result are is =
    (are.0, results_on names streams results bytes result are.1 is)

-- one more of the texts
pub texts_on : (names : List ProcessNames) (streams : List (String Global)) (i : ℕ) (stream : String Global)
    (readings : List (Result Trace StreamFault)) (reading : Result Trace StreamFault) → i < length streams
    → stream ≡ get_or streams i stream
    → AreResultsOf names (ended_streams (map string_bytes (take i streams))) (results_view readings)
    → IsResultOf names (ended_stream (string_bytes stream)) (result_view reading)
    → AreResultsOf names (ended_streams (map string_bytes (take (i + 1) streams)))
    (results_view (readings ++ reading ∷ []))
texts_on names streams i stream readings reading lt at are is =
    let taken : take (i + 1) streams ≡ take i streams ++ stream ∷ [] =
    ap (λ n. take n streams) (let next : i + 1 ≡ suc i = omega arith in next)
    ∙ (take-suc streams i stream lt ∙ ap (λ y. take i streams ++ y ∷ []) (sym at)) in
    let texts : map string_bytes (take (i + 1) streams)
    ≡ map string_bytes (take i streams) ++ string_bytes stream ∷ [] =
    ap (map string_bytes) taken ∙ map-append string_bytes (take i streams) (stream ∷ []) in
    subst (λ (all : List (List ℕ)). AreResultsOf names (ended_streams all) (results_view (readings ++ reading ∷ [])))
    (sym texts)
    (subst (λ (all : List StreamResult). AreResultsOf names
    (ended_streams (map string_bytes (take i streams) ++ string_bytes stream ∷ [])) all)
    (sym (map-append result_view readings (reading ∷ [])))
    (results_on names (map string_bytes (take i streams)) (results_view readings) (string_bytes stream)
    (result_view reading) are is))

-- the report of the results is that of the streams
pub judged_of : (inquiry : Inquiry) (document : Document) (streams : List (String Global)) (count : ℕ)
    (results : List StreamResult) (report : Report) → IsDocument inquiry document
    → AreResultsOf document.names (ended_streams (map string_bytes streams)) results → count ≡ length streams
    → IsReportOfResults document count results report
    → IsJudgement inquiry (ended_streams (map string_bytes streams)) report
judged_of inquiry document streams count results report is are counted right =
    of_read document results is are
    (subst (λ (n : ℕ). IsReportOfResults document n results report)
    (counted ∙ sym (length-map (map string_bytes streams) ended_stream ∙ length-map streams string_bytes)) right)
