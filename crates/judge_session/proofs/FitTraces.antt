-- The traces of a session fit its document, and what they record.
use Rattle.std.proofs.Common.{◌≡◌, ℕ, List, [], ◌∷◌, length, map, refl, ap, ◌∙◌, subst, Some, None, Option}
use Rattle.std.specs.Prelude.{IfSome, MatchOption}
use Rattle.std.proofs.lemmas.List.{length-map}
use Rattle.def_model.specs.Events.{Computation, Place}
use Rattle.def_model.specs.Messages.{Fault, HasLawfulMessages, HasMessages, IsReported, Version}
use Rattle.def_model.specs.Order.{HasNoCycle, IsReportedCycle}
use Rattle.def_model.specs.Predicates.{Recorded}
use Rattle.def_format.specs.Documents.{Document}
use Rattle.def_judgement.specs.Judgements.{IsTracesReport, of_cycle, of_messages, events_of_traces}
use Rattle.def_format.specs.RefusalWords.{match_refusal, named_place}
use Rattle.def_judgement.specs.Judgements as judgements
use Rattle.def_format.specs.Names.{ProcessNames}
use Rattle.def_format.specs.Reports as reports
use Rattle.def_format.specs.Reports.{Refusal, Refused}
use Rattle.read_traces.specs.Views.{computation_view}
use Rattle.read_traces.specs.declared.event.Trace.{Trace}
use Rattle.read_traces.specs.SessionTraces.{AreTraces}
use Rattle.pd_gather.specs.Views.{traces_view}
use Rattle.pd_clock.specs.Computations.{recorded_view}
use Rattle.judge_session.specs.Computations.{AreWellFormed}

-- ---- what was recorded

pub same_events : (traces : List Trace) → computation_view traces ≡ events_of_traces (traces_view traces)
same_events [] = refl
same_events (trace ∷ traces) = ap (λ (c : Computation). trace.events ∷ c) (same_events traces)

pub same_recorded : (document : Document) (traces : List Trace) → recorded_view document.initial traces
    ≡ judgements.recorded_of document (traces_view traces)
same_recorded document traces =
    ap (λ (events : Computation). let r : Recorded = record { initial = document.initial; events = events } in
    r) (same_events traces)

pub traces_length : (names : List ProcessNames) (traces : List Trace) → AreTraces names traces
    → length (computation_view traces) ≡ length names
traces_length names traces are = length-map traces (λ (trace : Trace). trace.events) ∙ are.one_each

-- ---- the reports of traces

messages_report : (document : Document) (traces : List Trace) (fault : Fault)
    → IsReported document.version (computation_view traces) fault
    → IsTracesReport document (traces_view traces) (Refused (match_refusal document.names fault))
messages_report document traces fault r =
    of_messages fault (subst (λ (c : Computation). IsReported document.version c fault) (same_events traces) r)

reported_report : (document : Document) (names : List ProcessNames) (traces : List Trace) (reported : Option Fault)
    (refusal : Refusal) → names ≡ document.names
    → IfSome reported (IsReported document.version (computation_view traces))
    → MatchOption reported ⊥ (λ fault. refusal ≡ match_refusal names fault)
    → IsTracesReport document (traces_view traces) (Refused refusal)
reported_report document names traces None refusal same is tells = absurd tells
reported_report document names traces (Some fault) refusal same is tells =
    rw (tells, same) (messages_report document traces fault is)

-- the messages of the version that the document says are refused
pub refused_report : (document : Document) (names : List ProcessNames) (version : Version) (traces : List Trace)
    (reported : Option Fault) (refusal : Refusal) → names ≡ document.names → version ≡ document.version
    → IfSome reported (IsReported version (computation_view traces))
    → MatchOption reported ⊥ (λ fault. refusal ≡ match_refusal names fault)
    → IsTracesReport document (traces_view traces) (Refused refusal)
refused_report document names version traces reported refusal same says is tells =
    reported_report document names traces reported refusal same
    (subst (λ (v : Version). IfSome reported (IsReported v (computation_view traces))) says is) tells

pub cycle_report : (document : Document) (traces : List Trace) (cycle : List Place)
    → HasLawfulMessages document.version (computation_view traces) → IsReportedCycle (computation_view traces) cycle
    → IsTracesReport document (traces_view traces) (Refused (reports.Cycle (map (named_place document.names) cycle)))
cycle_report document traces cycle lawful r =
    of_cycle cycle (subst (HasLawfulMessages document.version) (same_events traces) lawful)
    (subst (λ (c : Computation). IsReportedCycle c cycle) (same_events traces) r)

-- ---- the computation of traces whose messages are lawful

pub well_formed : (document : Document) (traces : List Trace) (count : ℕ)
    → length (computation_view traces) ≡ length document.names
    → HasLawfulMessages document.version (computation_view traces) → HasNoCycle (computation_view traces)
    → HasMessages (computation_view traces) count
    → AreWellFormed document (traces_view traces) (recorded_view document.initial traces) count
well_formed document traces count one_each lawful acyclic counted =
    let same : computation_view traces ≡ events_of_traces (traces_view traces) = same_events traces in
    record {
      same = same_recorded document traces;
      one_each = one_each;
      formed = record {
        messages = subst (HasLawfulMessages document.version) same lawful;
        no_cycle = subst HasNoCycle same acyclic;
      };
      counted = subst (λ (c : Computation). HasMessages c count) same counted;
    }
