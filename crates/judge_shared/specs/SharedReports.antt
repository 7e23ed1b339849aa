-- The report of a run that is judged among others: runs of one order share their answers.
use Rattle.std.specs.Prelude.{◌≡◌, ◌↔◌, ◌⊎◌, ℕ, Bool, true, List, [], length}
use Rattle.std.specs.List.{AllZip}
use Rattle.def_model.specs.Cuts.{total}
use Rattle.def_model.specs.Events.{Computation}
use Rattle.def_model.specs.Messages.{HasMessages}
use Rattle.def_model.specs.Observations as observations
use Rattle.def_model.specs.Order.{IsWellFormed}
use Rattle.def_model.specs.Predicates.{Recorded, test_of}
use Rattle.def_format.specs.Documents.{Document, Inquiry, NamedPredicate}
use Rattle.def_format.specs.Readings.{Trace}
use Rattle.def_format.specs.Reports.{Answer, Definitely, Possibly, Report, Judged}
use Rattle.def_judgement.specs.Headline.{HoldsSession, IsTrueReport}
use Rattle.def_judgement.specs.Judgements.{IsJudgement, RawStream, events_of_traces, recorded_of}
use Rattle.def_judgement.specs.Writes.{IsGivenAs, Source}

-- The answer is the truth about both questions, with no evidence beside it: no cut, no level, and no observation.
pub record IsRight (c : Computation) (test : List ℕ → Bool) (answer : Answer) : Type 0 where
  pub possibly_yes : (answer.possibly ≡ Possibly.Yes []) ↔ observations.Possibly c test
  pub possibly_no : (answer.possibly ≡ Possibly.No) ↔ (¬ observations.Possibly c test)
  pub definitely_yes : (answer.definitely ≡ Definitely.Yes 0) ↔ observations.Definitely c test
  pub definitely_no : (answer.definitely ≡ Definitely.No []) ↔ (¬ observations.Definitely c test)

-- under the name of the predicate that is asked, of what was recorded
abbrev pub AnswersRightly : Recorded → NamedPredicate → Answer → Type 0
AnswersRightly recorded asked answer =
    (answer.name ≡ asked.name) × IsRight recorded.events (test_of recorded asked.predicate) answer

-- The report of traces that make a well-formed computation, which it counts, with answers that are the truth. The
-- document asks for answers beyond its width.
pub record IsSharedReport (document : Document) (traces : List Trace) (report : Report) : Type 0 where
  pub beyond : document.beyond_width ≡ true
  pub formed : IsWellFormed document.version (events_of_traces traces)
  pub messages : ℕ
  pub answers : List Answer
  pub reported : report ≡ Judged (length document.names) (total (events_of_traces traces)) messages answers
  pub counted : HasMessages (events_of_traces traces) messages
  pub right : AllZip (AnswersRightly (recorded_of document traces)) document.predicates answers

-- The report of a run by its document, with what is asked beside it, and by its streams. It is the one that a judgement
-- of the run gives, which is true; or, if answers beyond the width are asked for, it has answers that are the truth,
-- with no evidence, as another run of its order, or its reduction, may have shown.
abbrev pub IsRunReport : Inquiry → List RawStream → Report → Type 0
IsRunReport inquiry streams report =
    (IsJudgement inquiry streams report × IsTrueReport inquiry streams report)
    ⊎ ((document : Document) × (traces : List Trace) × HoldsSession inquiry streams document traces
    × IsSharedReport document traces report)

-- the same of the streams that these sources gave
pub record IsRunReportOfInputs (inquiry : Inquiry) (inputs : List Source) (report : Report) : Type 0 where
  pub streams : List RawStream
  pub are_given : AllZip IsGivenAs inputs streams
  pub is_report : IsRunReport inquiry streams report
