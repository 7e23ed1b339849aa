-- The cycle for which a session is refused is drawn, if the report states it.
use Rattle.std.proofs.Common.{◌≡◌, ◌<◌, ℕ, List, [], ◌∷◌, All, length, map, Some, refl, sym, ap, ◌∙◌, subst, true}
use Rattle.std.specs.List.{AllByRecursion}
use Rattle.std.proofs.lemmas.List.Elements.{All-cons, All-nil}
use Rattle.def_model.specs.Events.{Computation, IsEvent, Place}
use Rattle.def_model.proofs.Consistency.{process_in_range}
use Rattle.def_model.proofs.PrintedPlaces.{cycle_events}
use Rattle.def_format.specs.Documents.{Document}
use Rattle.def_format.specs.Names.{ProcessNames}
use Rattle.def_format.specs.OtherTexts.{Finding, OfRefusal}
use Rattle.def_format.specs.Readings.{Trace}
use Rattle.def_format.specs.RefusalWords.{match_refusal, named_place}
use Rattle.def_format.specs.Reports.{Cycle, IsReport, NamedPlace, Refusal, Refused, Report}
use Rattle.def_format.proofs.OneReport.{one_report_of_bytes}
use Rattle.def_judgement.specs.Judgements.{IsTracesReport, events_of_traces, of_answers, of_cycle, of_messages}
use Rattle.judge_check.specs.Found.{IsFoundOf, IsFoundOfRefused, of_refusal, of_refused_session, of_session}
use Rattle.judge_draw.specs.Cycles.{IsOfProcess, NamesProcesses, StatesCycle}
use Rattle.judge_session.proofs.EarlyRefusals.{messages_name_none}
use Rattle.judge_draw.specs.Drawings.{NeedsNoPicture}

-- ---- the processes of a cycle are there

cycle_places : (names : List ProcessNames) (c : Computation) (cycle : List Place) → length c ≡ length names
    → AllByRecursion (IsEvent c) cycle → All (IsOfProcess names) (map (named_place names) cycle)
cycle_places names c [] same all = All-nil (IsOfProcess names)
cycle_places names c (e ∷ cycle) same all =
    let there : e.process < length names = subst (λ (n : ℕ). e.process < n) same (process_in_range c e all.0) in
    All-cons (IsOfProcess names) (named_place names e) (map (named_place names) cycle) (e.process, there, refl)
    (cycle_places names c cycle same all.1)

report_places : (document : Document) (traces : List Trace) (report : Report) (refusal : Refusal)
    → length (events_of_traces traces) ≡ length document.names → IsTracesReport document traces report
    → report ≡ Refused refusal → NamesProcesses document.names refusal
report_places document traces _ refusal same (of_messages fault reported) is places cycle =
    absurd (messages_name_none document.names (Some fault) (match_refusal document.names fault) refl places
    (is ∙ ap Refused cycle))
report_places document traces _ refusal same (of_cycle found lawful reported) is places cycle =
    let these : map (named_place document.names) found ≡ places = cc in
    subst (All (IsOfProcess document.names)) these
    (cycle_places document.names (events_of_traces traces) found same
    (cycle_events (events_of_traces traces) found reported))
report_places document traces _ refusal same (of_answers messages answers formed counted answered) is places cycle =
    absurd (cc)

-- the places of a refused cycle
pub refusal_places : (document : Document) (traces : List Trace) (refusal : Refusal)
    → length (events_of_traces traces) ≡ length document.names → IsTracesReport document traces (Refused refusal)
    → NamesProcesses document.names refusal
refusal_places document traces refusal same right =
    report_places document traces (Refused refusal) refusal same right refl

-- ---- what is left undrawn

-- a refusal of which no cycle is drawn
pub left_undrawn : (claimed : Report) (refusal : Refusal) → ¬ StatesCycle claimed refusal
    → NeedsNoPicture claimed (Refused refusal)
left_undrawn claimed refusal none same places is =
    let cycle : refusal ≡ Cycle places = cc in none (places, cycle, same)

-- what is found of a refused session, of which nothing is drawn
pub refused_undrawn : (report : List ℕ) (refusal : Refusal) (claimed : Report) (finding : Finding)
    → IsFoundOfRefused refusal claimed finding → IsReport report claimed → NeedsNoPicture claimed (Refused refusal)
    → finding ≡ OfRefusal true → (places : List NamedPlace) → ¬ IsReport report (Refused (Cycle places))
refused_undrawn report refusal claimed _ (of_refused_session good right) read undrawn is places other =
    let sure : good ≡ true = cc in
    let same : claimed ≡ Refused refusal = right.0 sure in
    undrawn same places (sym same ∙ one_report_of_bytes report claimed (Refused (Cycle places)) read other)

-- what is found of a well-formed session isn't that the report is its refusal
pub formed_unrefused : (document : Document) (traces : List Trace) (messages : ℕ) (claimed : Report) (finding : Finding)
    → IsFoundOf document traces messages claimed finding → ¬ (finding ≡ OfRefusal true)
formed_unrefused document traces messages claimed _ (of_refusal refusal is) same = cc
formed_unrefused document traces messages claimed _
    (of_session processes events matched answers good found is counts verdicts) same = cc
