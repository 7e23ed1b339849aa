-- What was read of a session that was made.
use Rattle.std.proofs.Common.{◌≡◌, List, [], ◌∷◌, ℕ, length, map, refl, sym, ap, ◌∙◌, subst}
use Rattle.std.specs.Prelude.{Ok, Vec}
use Rattle.std.specs.Global.{Global}
use Rattle.std.specs.List.{AllZip}
use Rattle.std.proofs.lemmas.List.{length-map}
use Rattle.def_model.specs.Cuts.{total}
use Rattle.def_model.specs.Messages.{HasMessages}
use Rattle.def_model.specs.Predicates.{Recorded}
use Rattle.def_format.specs.Documents.{Document}
use Rattle.def_format.specs.Names.{ProcessNames}
use Rattle.def_format.specs.Readings.{Ended, Trace}
use Rattle.def_format.specs.Sessions.{StreamResult, session}
use Rattle.def_judgement.specs.Judgements.{AreResultsOf, RawStream, ended_stream, ended_streams, events_of_traces}
use Rattle.def_judgement.specs.Writes.{IsGivenAs, Source, whole_source}
use Rattle.def_orders.specs.Orders.{IsOrderOf}
use Rattle.judge_orders.specs.OrderViews.{named_view, processes_view}
use Rattle.judge_orders.specs.declared.order.Order.{Order}
use Rattle.judge_reduction.specs.ReadSessions.{AreCountsOf, AreTracesOf, HaveOrder}
use Rattle.judge_reduction.specs.ReducedSessions.{texts_view}
use Rattle.judge_reduction.specs.declared.counts.Counts.{Counts}
use Rattle.judge_session.specs.Computations.{AreWellFormed}
use Rattle.pd_gather.specs.ReadStreams.{ComesTo}

-- what a whole source gives is its bytes, to their end
given_whole : (bytes : List ℕ) (stream : RawStream) → IsGivenAs (whole_source bytes) stream
    → stream ≡ ended_stream bytes
given_whole bytes stream given =
    let ending : stream.ending ≡ Ended = given.ends refl in
    let all : stream.bytes ≡ bytes = given.given_by.whole ending in
    (λ i. record { ending = ending i; bytes = all i })

given_wholes : (texts : List (Vec ℕ Global)) (streams : List RawStream)
    → AllZip IsGivenAs (map (λ text. whole_source text.items) texts) streams
    → streams ≡ ended_streams (texts_view texts)
given_wholes [] [] given = refl
given_wholes [] (stream ∷ streams) given = absurd given
given_wholes (text ∷ texts) [] given = absurd given
given_wholes (text ∷ texts) (stream ∷ streams) given =
    let first : stream ≡ ended_stream text.items = given_whole text.items stream given.0 in
    let others : streams ≡ ended_streams (texts_view texts) = given_wholes texts streams given.1 in
    cc

-- The traces of a session of whole sources are those of its texts.
pub traces_of_sources : (names : List ProcessNames) (texts : List (Vec ℕ Global)) (sources : List Source)
    (streams : List RawStream) (count : ℕ) (results : List StreamResult) (traces : List Trace)
    → sources ≡ map (λ text. whole_source text.items) texts → AllZip IsGivenAs sources streams
    → ComesTo names streams count results → session names count results ≡ Ok traces
    → AreTracesOf names (texts_view texts) traces
traces_of_sources names texts sources streams count results traces whole given comes joined =
    let same : streams ≡ ended_streams (texts_view texts) =
    given_wholes texts streams (subst (λ (from : List Source). AllZip IsGivenAs from streams) whole given) in
    let many : length streams ≡ length (texts_view texts) =
    ap length same ∙ length-map (texts_view texts) ended_stream in
    record {
      results = comes.given_results;
      are_results = subst (λ (raw : List RawStream). AreResultsOf names raw comes.given_results) same
          comes.are_results;
      joined = ap (λ (n : ℕ). session names n comes.given_results) (sym many) ∙ (sym comes.same_session ∙ joined);
    }

-- The counts of a computation are those of its traces.
pub have_order : (document : Document) (traces : List Trace) (recorded : Recorded) (messages : ℕ) (order : Order)
    (counts : Counts) → AreWellFormed document traces recorded messages → AreCountsOf recorded messages order counts
    → HaveOrder document traces order counts
have_order document traces recorded messages order counts well are = record {
  formed = well.formed;
  is_order = subst (λ (r : Recorded). IsOrderOf r (named_view order) (processes_view order)) well.same are.is_order;
  all_events = are.all_events ∙ ap (λ (r : Recorded). total r.events) well.same;
  all_messages = subst (HasMessages (events_of_traces traces)) (sym are.all_messages) well.counted;
}
