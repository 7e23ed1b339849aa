-- The exact texts of pictures show what they are to show.
use Rattle.std.proofs.Common.{◌≡◌, ◌≢◌, ℕ, List, map, Option, None, Some, true, refl, sym, ap, ◌∙◌, subst}
use Rattle.std.specs.Prelude.{Contains}
use Rattle.def_model.specs.Answers.{cuts_along}
use Rattle.def_model.specs.Cuts.{empty_cut}
use Rattle.def_model.specs.Predicates.{Predicate, Recorded, test_of}
use Rattle.def_format.specs.Documents.{Document, Inquiry}
use Rattle.def_format.specs.Names.{ProcessNames}
use Rattle.def_format.specs.OtherTexts.{OfSession}
use Rattle.def_format.specs.Readings.{Trace}
use Rattle.def_format.specs.RefusalWords.{named_place}
use Rattle.def_format.specs.Reports.{Answer, Definitely, IsReport, Judged, NamedPlace, Possibly, Refused, Report}
use Rattle.def_format.specs.Reports as reports
use Rattle.def_judgement.specs.Findings.{IsGoodCut}
use Rattle.def_judgement.specs.Judgements.{IsTracesReport, events_of_traces, recorded_of}
use Rattle.def_judgement.specs.Writes.{Source}
use Rattle.out_picture.specs.Scopes.{Scope}
use Rattle.out_picture.specs.declared.evidence.Evidence.{Evidence}
use Rattle.out_picture.specs.declared.evidence.Evidence.TheVariants.{Absent, Cut, Observation}
use Rattle.out_picture.specs.declared.extent.Extent.{Extent}
use Rattle.out_picture.specs.declared.kind.Kind.{Kind}
use Rattle.out_picture.specs.declared.kind.Kind.TheVariants as kinds
use Rattle.judge_check.specs.Found.{IsFoundOf}
use Rattle.judge_draw.specs.Choices.{choice}
use Rattle.judge_draw.specs.Drawings.{IsCycleTextOf, IsDrawingTextOf}
use Rattle.judge_draw.specs.Drawn.{ShowsChoice, process_names}
use Rattle.judge_draw.specs.Cycles.{cycle_title}
use Rattle.judge_draw.specs.Exhibits.{Shows, ShowsCut, ShowsCutAlone, ShowsDefinitely, ShowsNothing, ShowsPath, ShowsPossibly}
use Rattle.judge_draw.specs.declared.choice.Choice.{Choice}
use Rattle.judge_draw.specs.declared.choice.Choice.TheVariants.{Alone, Of, Unknown, Lacking}
use Rattle.judge_draw.specs.Shows.{HasCut, HasPath, IsEvidenceBy, IsEvidenceOf, ShowsRefusal, ShowsSession}
use Rattle.judge_draw.proofs.FewProcesses.{few_processes}
use Rattle.out_picture.proofs.NotesShown.{noted_cycle, noted_picture}
use Rattle.out_picture.proofs.PicturesShow.{cycle_shows, picture_shows}

-- ---- evidence

module _ (names : List ProcessNames) (recorded : Recorded) (predicate : Predicate) (answer : Answer) where
  of_cut : (kind : Option Kind) (cut : List ℕ) (evidence : Evidence) → kind ≢ Some kinds.Definitely
      → answer.possibly ≡ Possibly.Yes cut → ShowsCut names recorded predicate cut evidence
      → IsEvidenceOf kind names recorded predicate answer evidence
  of_cut kind cut Absent other is shows = absurd shows
  of_cut kind cut (Cut counts values path) other is shows = (
    other,
    is ∙ ap Possibly.Yes (sym shows.0),
    subst (λ c. IsGoodCut recorded.events (test_of recorded predicate) c) (sym shows.0) shows.1,
    shows.3.1,
    subst (λ c. Contains (cuts_along (empty_cut recorded.events) path.items) c) (sym shows.0) shows.3.2,
  )
  of_cut kind cut (Observation path) other is shows = absurd shows

  of_path : (kind : Option Kind) (reported : List (List ℕ)) (evidence : Evidence) → kind ≢ Some kinds.Possibly
      → (kind ≡ None → ¬ HasCut answer) → answer.definitely ≡ Definitely.No reported
      → ShowsPath names recorded predicate reported evidence
      → IsEvidenceOf kind names recorded predicate answer evidence
  of_path kind reported Absent other no_cut is shows = absurd shows
  of_path kind reported (Cut counts values path) other no_cut is shows = absurd shows
  of_path kind reported (Observation path) other no_cut is shows =
      (other, no_cut, is ∙ ap Definitely.No (sym shows.0), shows.1)

  of_nothing : (kind : Option Kind) (evidence : Evidence) → (kind ≢ Some kinds.Definitely → ¬ HasCut answer)
      → (kind ≢ Some kinds.Possibly → ¬ HasPath answer) → ShowsNothing evidence
      → IsEvidenceOf kind names recorded predicate answer evidence
  of_nothing kind Absent no_cut no_path shows = (no_cut, no_path)
  of_nothing kind (Cut counts values path) no_cut no_path shows = absurd shows
  of_nothing kind (Observation path) no_cut no_path shows = absurd shows

  of_definitely : (kind : Option Kind) (definitely : Definitely) (evidence : Evidence)
      → answer.definitely ≡ definitely → kind ≢ Some kinds.Possibly → (kind ≢ Some kinds.Definitely → ¬ HasCut answer)
      → ShowsDefinitely names recorded predicate definitely evidence
      → IsEvidenceOf kind names recorded predicate answer evidence
  of_definitely kind (Definitely.Yes level) evidence is other no_cut shows =
      of_nothing kind evidence no_cut (λ _ has. absurd (let same = sym is ∙ has.1 in cc)) shows
  of_definitely kind (Definitely.No reported) evidence is other no_cut shows =
      of_path kind reported evidence other (λ none. no_cut (λ some. absurd (let same = sym none ∙ some in cc))) is shows
  of_definitely kind (Definitely.Unknown level) evidence is other no_cut shows =
      of_nothing kind evidence no_cut (λ _ has. absurd (let same = sym is ∙ has.1 in cc)) shows

  of_possibly : (possibly : Possibly) (evidence : Evidence) → answer.possibly ≡ possibly
      → ShowsPossibly names recorded predicate possibly answer.definitely evidence
      → IsEvidenceOf None names recorded predicate answer evidence
  of_possibly (Possibly.Yes cut) evidence is shows = of_cut None cut evidence (λ same. absurd (cc)) is shows
  of_possibly Possibly.No evidence is shows =
      of_definitely None answer.definitely evidence refl (λ same. absurd (cc))
      (λ _ has. absurd (let same = sym is ∙ has.1 in cc)) shows
  of_possibly (Possibly.Unknown level) evidence is shows =
      of_definitely None answer.definitely evidence refl (λ same. absurd (cc))
      (λ _ has. absurd (let same = sym is ∙ has.1 in cc)) shows

  of_cut_alone : (possibly : Possibly) (evidence : Evidence) → answer.possibly ≡ possibly
      → ShowsCutAlone names recorded predicate possibly evidence
      → IsEvidenceOf (Some kinds.Possibly) names recorded predicate answer evidence
  of_cut_alone (Possibly.Yes cut) evidence is shows =
      of_cut (Some kinds.Possibly) cut evidence (λ same. absurd (cc)) is shows
  of_cut_alone Possibly.No evidence is shows =
      of_nothing (Some kinds.Possibly) evidence (λ _ has. absurd (let same = sym is ∙ has.1 in cc))
      (λ other. absurd (other refl)) shows
  of_cut_alone (Possibly.Unknown level) evidence is shows =
      of_nothing (Some kinds.Possibly) evidence (λ _ has. absurd (let same = sym is ∙ has.1 in cc))
      (λ other. absurd (other refl)) shows

  of_answer : (kind : Option Kind) (evidence : Evidence) → Shows kind names recorded predicate answer evidence
      → IsEvidenceOf kind names recorded predicate answer evidence
  of_answer None evidence shows = of_possibly answer.possibly evidence refl shows
  of_answer (Some kinds.Possibly) evidence shows = of_cut_alone answer.possibly evidence refl shows
  of_answer (Some kinds.Definitely) evidence shows =
      of_definitely (Some kinds.Definitely) answer.definitely evidence refl (λ same. absurd (cc))
      (λ other. absurd (other refl)) shows

absent_if_nothing : (evidence : Evidence) → ShowsNothing evidence → evidence ≡ Absent
absent_if_nothing Absent shows = refl
absent_if_nothing (Cut counts values path) shows = absurd shows
absent_if_nothing (Observation path) shows = absurd shows

by_choice : (kind : Option Kind) (document : Document) (traces : List Trace) (answers : List Answer) (chosen : Choice)
    (evidence : Evidence) (title : List ℕ) → ShowsChoice kind document traces answers chosen evidence title
    → IsEvidenceBy kind document traces answers chosen evidence
by_choice kind document traces answers Alone evidence title shows = (refl, absent_if_nothing evidence shows.0)
by_choice kind document traces answers (Of i) evidence title shows = (
  shows.asked,
  shows.is_asked,
  shows.answer,
  shows.is_answer,
  of_answer document.names (recorded_of document traces) shows.asked.predicate shows.answer kind evidence shows.shows,
)
by_choice kind document traces answers Unknown evidence title shows = absurd shows
by_choice kind document traces answers Lacking evidence title shows = absurd shows

-- ---- texts

-- the text of a picture shows its session and its evidence
pub drawings_show : (inquiry : Inquiry) (report : List ℕ) (inputs : List Source) (scope : Scope) (text : List ℕ)
    → IsDrawingTextOf inquiry report inputs scope true text → ShowsSession inquiry report inputs scope text
drawings_show inquiry report inputs scope text h =
    let is = h.is_picture in
    let drawn = is.drawn in
    let claimed = Judged drawn.processes drawn.events drawn.matched drawn.answers in
    let same : is.claimed ≡ claimed = drawn.is_judged in
    record {
      streams = is.streams;
      are_given = is.are_given;
      document = is.document;
      traces = is.traces;
      messages = is.messages;
      held = is.held;
      pairs = is.pairs;
      are_pairs = is.are_pairs;
      processes = drawn.processes;
      events = drawn.events;
      matched = drawn.matched;
      answers = drawn.answers;
      read = subst (IsReport report) same is.read;
      checked = drawn.checked;
      found = subst (λ claimed. IsFoundOf is.document is.traces is.messages claimed
          (OfSession true (Some drawn.checked))) same drawn.found;
      stands = drawn.stands;
      evidence = drawn.shows.evidence;
      is_evidence = by_choice scope.kind is.document is.traces drawn.answers (choice scope drawn.checked)
          drawn.shows.evidence drawn.shows.title drawn.shows.shows;
      drawing = h.has_text.drawing;
      shows = noted_picture true h.picture h.has_text.drawing h.has_text.adds (events_of_traces is.traces) is.pairs
          (process_names is.document) drawn.shows.evidence scope.extent
          (picture_shows (events_of_traces is.traces) is.pairs (process_names is.document) drawn.shows.title
          scope.extent h.picture
          (few_processes inquiry is.document is.streams is.held.results is.traces is.held.read is.held.are_results
          is.held.joined) drawn.shows.evidence drawn.shows.is_picture);
      is_text = h.has_text.is_text;
    }

-- the text of the picture of a cycle shows its session and its cycle
pub cycles_show : (inquiry : Inquiry) (report : List ℕ) (inputs : List Source) (extent : Extent) (text : List ℕ)
    → IsCycleTextOf inquiry report inputs extent true text → ShowsRefusal inquiry report inputs extent text
cycles_show inquiry report inputs extent text h =
    let is = h.is_picture in
    let draws = is.draws in
    let drawn = draws.drawn.drawn in
    let same : draws.refusal ≡ reports.Cycle (map (named_place is.document.names) drawn.cycle) =
    draws.drawn.is_cycle ∙ ap reports.Cycle (sym drawn.named) in
    record {
      streams = is.streams;
      are_given = is.are_given;
      document = is.document;
      is_document = is.is_document;
      results = is.results;
      are_results = is.are_results;
      traces = is.traces;
      joined = is.joined;
      cycle = drawn.cycle;
      read = subst (IsReport report) (draws.is_claimed ∙ ap Refused same) is.read;
      refused = subst (IsTracesReport is.document is.traces) (ap Refused same) draws.refused;
      pairs = draws.pairs;
      are_pairs = draws.are_pairs;
      drawing = h.has_text.drawing;
      shows = noted_cycle true h.picture h.has_text.drawing h.has_text.adds (events_of_traces is.traces) draws.pairs
          (process_names is.document) drawn.cycle extent
          (cycle_shows (events_of_traces is.traces) draws.pairs (process_names is.document)
          (cycle_title draws.drawn.places) extent h.picture
          (few_processes inquiry is.document is.streams is.results is.traces is.is_document is.are_results is.joined)
          drawn.cycle drawn.is_picture);
      is_text = h.has_text.is_text;
    }
