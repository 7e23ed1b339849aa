-- What is drawn of a report by the session that readers gave.
use Rattle.std.proofs.Common.{◌≡◌, ℕ, List, sym, ap, ◌∙◌, subst, refl, true}
use Rattle.def_judgement.specs.Writes.{Source}
use Rattle.def_model.specs.Events.{Computation, Place}
use Rattle.def_model.specs.Messages.{IsMessageList}
use Rattle.def_model.specs.Predicates.{Recorded}
use Rattle.read_traces.specs.Views.{computation_view}
use Rattle.read_traces.specs.declared.event.Trace.{Trace as Read}
use Rattle.pd_gather.specs.Views.{traces_view}
use Rattle.def_format.specs.Documents.{Document, Inquiry}
use Rattle.def_format.specs.OtherTexts.{Finding, NotRead}
use Rattle.def_format.specs.Readings.{Trace}
use Rattle.def_format.specs.Reports.{IsNoReport, IsReport, Refusal, Refused, Report}
use Rattle.def_judgement.specs.Findings.{IsSessionOf}
use Rattle.def_judgement.specs.Judgements.{IsTracesReport}
use Rattle.out_svg.specs.declared.drawing.Drawing.{Drawing as Picture}
use Rattle.judge_check.specs.Found.{IsFoundOfRefused, of_refused_session}
use Rattle.judge_check.specs.Views.{finding_view}
use Rattle.judge_check.proofs.SessionFindings.{finding_of_session}
use Rattle.out_picture.specs.Scopes.{Scope}
use Rattle.out_picture.specs.declared.extent.Extent.{Extent}
use Rattle.judge_draw.specs.Choices.{stands_against}
use Rattle.judge_draw.specs.Cycles.{IsRefusalDrawn}
use Rattle.judge_draw.specs.Drawn.{Comes}
use Rattle.judge_draw.specs.declared.drawn.Drawn.{Drawn}
use Rattle.judge_draw.specs.declared.drawn.Drawn.TheVariants as drawn
use Rattle.judge_session.specs.Computations.{AreWellFormed}
use Rattle.judge_draw.specs.Sessions.{IsRead}
use Rattle.judge_draw.specs.Drawings.{DrawsCycle, DrawsFormed, DrawsOf, DrawsTraces, IsAgainst, NeedsNoPicture}
use Rattle.judge_session.specs.SessionReports.{IsReportOfInputs}
use Rattle.judge_session.proofs.FitTraces.{same_events}
use Rattle.judge_draw.proofs.SessionFindings.{refusal_found, unread_found}
use Rattle.judge_draw.proofs.StatedCycles.{formed_unrefused, refused_undrawn}

-- the events of the traces are those that are recorded
pub events_recorded : (document : Document) (traces : List Read) (recorded : Recorded) (count : ℕ)
    → AreWellFormed document (traces_view traces) recorded count → computation_view traces ≡ recorded.events
events_recorded document traces recorded count well =
    same_events traces ∙ ap (λ (r : Recorded). r.events) (sym well.same)

-- the messages of the traces are those of what is recorded
pub pairs_recorded : (document : Document) (traces : List Read) (recorded : Recorded) (count : ℕ)
    (pairs : List (Place × Place)) → AreWellFormed document (traces_view traces) recorded count
    → IsMessageList (computation_view traces) pairs → IsMessageList recorded.events pairs
pairs_recorded document traces recorded count pairs well list =
    subst (λ (c : Computation). IsMessageList c pairs) (events_recorded document traces recorded count well) list

-- what comes of a session's traces
pub formed_drawn : (document : Document) (traces : List Read) (recorded : Recorded) (messages : ℕ)
    (pairs : List (Place × Place)) (claimed : Report) (scope : Scope) (given : Drawn)
    → AreWellFormed document (traces_view traces) recorded messages
    → IsMessageList (computation_view traces) pairs
    → Comes document (traces_view traces) pairs messages claimed scope given
    → DrawsFormed document (traces_view traces) claimed scope given
formed_drawn document traces recorded messages pairs claimed scope given well list comes = record {
  messages = messages;
  formed = well.formed;
  counted = well.counted;
  pairs = pairs;
  are_pairs = subst (λ (c : Computation). IsMessageList c pairs) (same_events traces) list;
  comes = comes;
}

-- the same, whatever comes
pub traces_drawn : (document : Document) (traces : List Read) (recorded : Recorded) (messages : ℕ)
    (pairs : List (Place × Place)) (claimed : Report) (scope : Scope) (given : Drawn)
    → AreWellFormed document (traces_view traces) recorded messages
    → IsMessageList (computation_view traces) pairs
    → Comes document (traces_view traces) pairs messages claimed scope given
    → DrawsTraces document (traces_view traces) claimed scope given
traces_drawn document traces recorded messages pairs claimed scope (drawn.Picture picture) well list comes =
    formed_drawn document traces recorded messages pairs claimed scope (drawn.Picture picture) well list comes
traces_drawn document traces recorded messages pairs claimed scope (drawn.Bad finding) well list comes =
    formed_drawn document traces recorded messages pairs claimed scope (drawn.Bad finding) well list comes
traces_drawn document traces recorded messages pairs claimed scope drawn.NoPredicate well list comes =
    formed_drawn document traces recorded messages pairs claimed scope drawn.NoPredicate well list comes
traces_drawn document traces recorded messages pairs claimed scope drawn.NoEvidence well list comes =
    formed_drawn document traces recorded messages pairs claimed scope drawn.NoEvidence well list comes
traces_drawn document traces recorded messages pairs claimed scope (drawn.Cycle picture) well list comes = absurd comes

-- the picture of a refused cycle
pub cycle_drawn : (document : Document) (traces : List Read) (pairs : List (Place × Place)) (claimed : Report)
    (refusal : Refusal) (extent : Extent) (picture : Picture) → IsMessageList (computation_view traces) pairs
    → IsTracesReport document (traces_view traces) (Refused refusal) → claimed ≡ Refused refusal
    → IsRefusalDrawn document (computation_view traces) pairs refusal extent picture
    → DrawsCycle document (traces_view traces) claimed extent picture
cycle_drawn document traces pairs claimed refusal extent picture list refused same is = record {
  refusal = refusal;
  is_claimed = same;
  refused = refused;
  pairs = pairs;
  are_pairs = subst (λ (c : Computation). IsMessageList c pairs) (same_events traces) list;
  drawn = subst (λ (c : Computation). IsRefusalDrawn document c pairs refusal extent picture) (same_events traces) is;
}

-- a session that was read
module _ (inquiry : Inquiry) (inputs : List Source) (document : Document)
    (traces : List Trace) (claimed : Report) (scope : Scope)
    (read : IsRead inquiry inputs document traces) where
  held : (given : Drawn) → (draws : DrawsFormed document traces claimed scope given)
      → IsSessionOf inquiry read.streams document traces draws.messages
  held given draws = record {
    read = read.is_document;
    results = read.comes.given_results;
    are_results = read.comes.are_results;
    joined = sym read.comes.same_session ∙ read.joined;
    formed = draws.formed;
    counted = draws.counted;
  }

  pub session_drawn : (given : Drawn) → DrawsTraces document traces claimed scope given
      → DrawsOf inquiry claimed inputs scope given
  session_drawn (drawn.Picture picture) draws report is_report = record {
    streams = read.streams;
    are_given = read.are_given;
    document = document;
    traces = traces;
    messages = draws.messages;
    held = held (drawn.Picture picture) draws;
    pairs = draws.pairs;
    are_pairs = draws.are_pairs;
    claimed = claimed;
    read = is_report;
    drawn = draws.comes;
  }
  session_drawn (drawn.Bad finding) draws report is_report = record {
    streams = read.streams;
    are_given = read.are_given;
    right = finding_of_session inquiry report read.streams document traces draws.messages claimed (finding_view finding)
        is_report (held (drawn.Bad finding) draws) draws.comes.found;
    stands = draws.comes.stands;
    undrawn = λ same. absurd (formed_unrefused document traces draws.messages claimed (finding_view finding)
        draws.comes.found same);
  }
  session_drawn drawn.NoPredicate draws report is_report = record {
    streams = read.streams;
    are_given = read.are_given;
    checked = draws.comes.checked;
    right = finding_of_session inquiry report read.streams document traces draws.messages claimed _
        is_report (held drawn.NoPredicate draws) draws.comes.found;
    is_unknown = draws.comes.is_unknown;
  }
  session_drawn drawn.NoEvidence draws report is_report = record {
    streams = read.streams;
    are_given = read.are_given;
    checked = draws.comes.checked;
    right = finding_of_session inquiry report read.streams document traces draws.messages claimed _
        is_report (held drawn.NoEvidence draws) draws.comes.found;
    is_lacking = draws.comes.is_lacking;
  }
  session_drawn (drawn.Cycle picture) draws report is_report = record {
    streams = read.streams;
    are_given = read.are_given;
    document = document;
    is_document = read.is_document;
    results = read.comes.given_results;
    are_results = read.comes.are_results;
    traces = traces;
    joined = sym read.comes.same_session ∙ read.joined;
    claimed = claimed;
    read = is_report;
    draws = draws;
  }

-- a refused session
refusal_stands : (refusal : Refusal) (claimed : Report) (scope : Scope) (finding : Finding)
    → IsFoundOfRefused refusal claimed finding → stands_against scope finding ≡ true
refusal_stands refusal claimed scope finding (of_refused_session good right) = refl

pub refusal_drawn : (inquiry : Inquiry) (inputs : List Source) (refusal : Refusal)
    (claimed : Report)
    (scope : Scope) (finding : Finding) → IsReportOfInputs inquiry inputs (Refused refusal)
    → NeedsNoPicture claimed (Refused refusal) → IsFoundOfRefused refusal claimed finding
    → (report : List ℕ) → IsReport report claimed → IsAgainst inquiry report inputs scope finding
refusal_drawn inquiry inputs refusal claimed scope finding refused undrawn found report is_report =
    let finds = refusal_found inquiry inputs refusal claimed finding refused found in record {
      streams = finds.streams;
      are_given = finds.are_given;
      right = finds.right report is_report;
      stands = refusal_stands refusal claimed scope finding found;
      undrawn = refused_undrawn report refusal claimed finding found is_report undrawn;
    }

-- a report that isn't read
pub unread_drawn : (inquiry : Inquiry) (report : List ℕ) (inputs : List Source) (scope : Scope)
    (line : ℕ) → IsNoReport report line → IsAgainst inquiry report inputs scope (NotRead line)
unread_drawn inquiry report inputs scope line none =
    let finds = unread_found inquiry report inputs line none in record {
      streams = finds.streams;
      are_given = finds.are_given;
      right = finds.right;
      stands = refl;
      undrawn = λ same. absurd (cc);
    }
