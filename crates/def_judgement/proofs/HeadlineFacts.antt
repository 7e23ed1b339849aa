-- If each level is narrow no answer is unknown, and each is the truth; so is what is decided whatever the width or by
-- sums, if it is asked for. The answers agree at every width.
use Rattle.std.proofs.Common.{◌≡◌, ℕ, ◌≤◌, inl, inr, Bool, true, List, sum, [], ◌∷◌, map, All, refl, ap, subst, ◌↔◌}
use Rattle.std.proofs.lemmas.List.Elements.{All-nil, All-cons}
use Rattle.std.specs.List.{AllZip}
use Rattle.def_model.specs.Events.{Computation, Place}
use Rattle.def_model.specs.Messages.{Version, Fault, SendTwice, Orphan, SelfMessage, ReceivedTwice, IsReported, HasLawfulMessages}
use Rattle.def_model.specs.Cuts.{IsConsistent}
use Rattle.def_model.specs.Order.{HasNoCycle, IsReportedCycle, IsWellFormed}
use Rattle.def_model.specs.Observations as observations
use Rattle.def_model.specs.Answers.{PossiblyAnswer, PossiblyYes, PossiblyNo, PossiblyUnknown, DefinitelyAnswer, DefinitelyYes, DefinitelyNo, DefinitelyUnknown, IsAvoidingObservation}
use Rattle.def_model.specs.Predicates.{Recorded, test_of}
use Rattle.def_format.specs.Names.{ProcessNames, name_of_process}
use Rattle.def_format.specs.Readings.{Trace}
use Rattle.def_format.specs.Documents.{Document, NamedPredicate}
use Rattle.def_format.specs.Reports.{Possibly, Definitely, Answer, Report}
use Rattle.def_judgement.specs.Judgements.{events_of_traces, recorded_of, printed_possibly, printed_definitely, IsAnswered, IsTracesReport, of_messages, of_cycle, of_answers}
use Rattle.def_model.proofs.OneAnswer.{definite_is_possible}
use Rattle.def_model.proofs.Paths.{path_avoids}
use Rattle.def_model.proofs.Stuck.{none_stuck}
use Rattle.def_judgement.specs.Headline.{IsNarrow, AnswersAgree, SaysPossibly, SaysDefinitely, IsSound, Coverage, SaysTruly, AnswersTruly, TellsTruth, each_predicate, each_decided, Headline, HeadlineBeyondWidth, ReportsAgree}
use Rattle.def_judgement.proofs.Answered.{IsKnown, IsFound, IsSoundPossibly, IsSoundDefinitely, IsChosen, IsFirstOf, PossiblyAt, possibly_at, DefinitelyAt, definitely_at}
use Rattle.def_judgement.proofs.CutsByHeight.{first_below_level, lowest_below_level}
use Rattle.def_judgement.proofs.CutsTried.{tried_below_level}

-- ---- what is printed, at every width

-- if no is printed, no consistent cut satisfies
no_printed : (c : Computation) (test : List ℕ → Bool) (w : ℕ) (reported : Possibly) (p : PossiblyAnswer)
    → reported ≡ printed_possibly p → IsSoundPossibly c test w p → reported ≡ Possibly.No
    → ¬ observations.Possibly c test
no_printed c test w reported (PossiblyYes cut) e sound said = absurd (cc)
no_printed c test w reported PossiblyNo e sound said = sound
no_printed c test w reported (PossiblyUnknown k) e sound said = absurd (cc)

-- the cut printed is that of the answer
yes_printed : (reported : Possibly) (p : PossiblyAnswer) → reported ≡ printed_possibly p → (cut : List ℕ)
    → reported ≡ Possibly.Yes cut → p ≡ PossiblyYes cut
yes_printed reported (PossiblyYes printed) e cut said = let same : printed ≡ cut = cc in ap PossiblyYes same
yes_printed reported PossiblyNo e cut said = absurd (cc)
yes_printed reported (PossiblyUnknown k) e cut said = absurd (cc)

-- if yes is printed, every observation passes through a satisfying cut, and no cut of the level printed avoids
level_printed : (names : List ProcessNames) (c : Computation) (test : List ℕ → Bool) (w : ℕ) (reported : Definitely)
    (d : DefinitelyAnswer) → reported ≡ printed_definitely names d → IsSoundDefinitely c test w d → (level : ℕ)
    → reported ≡ Definitely.Yes level → observations.Definitely c test × observations.HasNoAvoiding c test level
level_printed names c test w reported (DefinitelyYes printed) e sound level said =
    let same : printed ≡ level = cc in (sound.0, subst (observations.HasNoAvoiding c test) same sound.1)
level_printed names c test w reported (DefinitelyNo path) e sound level said = absurd (cc)
level_printed names c test w reported (DefinitelyUnknown k) e sound level said = absurd (cc)

-- if no is printed, the names are those of an observation that avoids
path_printed : (names : List ProcessNames) (c : Computation) (test : List ℕ → Bool) (w : ℕ) (reported : Definitely)
    (d : DefinitelyAnswer) → reported ≡ printed_definitely names d → IsSoundDefinitely c test w d
    → (words : List (List ℕ)) → reported ≡ Definitely.No words → (path : List ℕ)
    × (words ≡ map (name_of_process names) path) × IsAvoidingObservation c test path
path_printed names c test w reported (DefinitelyYes level) e sound words said = absurd (cc)
path_printed names c test w reported (DefinitelyNo path) e (not_every, printed) words said =
    let same : words ≡ map (name_of_process names) path = cc in (path, same, path_avoids c test path printed)
path_printed names c test w reported (DefinitelyUnknown k) e sound words said = absurd (cc)

-- the cut that is printed has at most as many events as the level
cut_below : (c : Computation) → HasNoCycle c → (test : List ℕ → Bool) (level : ℕ) (cut : List ℕ) → IsChosen c test cut
    → observations.HasNoAvoiding c test level → sum cut ≤ level
cut_below c acyclic test level cut (inl first) none = first_below_level c acyclic test cut first level none
cut_below c acyclic test level cut (inr (inl lowest)) none = lowest_below_level c acyclic test cut lowest level none
cut_below c acyclic test level cut (inr (inr tried)) none = tried_below_level c acyclic test cut tried level none

-- the answers of Possibly and of Definitely agree
answers_agree : (names : List ProcessNames) (c : Computation) (test : List ℕ → Bool) (w : ℕ) (answer : Answer)
    → HasNoCycle c → (p : PossiblyAnswer) → answer.possibly ≡ printed_possibly p → IsSoundPossibly c test w p
    → IsFirstOf c test p → (d : DefinitelyAnswer) → answer.definitely ≡ printed_definitely names d
    → IsSoundDefinitely c test w d → AnswersAgree answer
answers_agree names c test w answer acyclic p e sound first d f holds =
    record {
      no_clash = λ level said none.
          no_printed c test w answer.possibly p e sound none (definite_is_possible c acyclic test
          (level_printed names c test w answer.definitely d f holds level said).0);
      below = λ cut level said said'.
          cut_below c acyclic test level cut (first cut (yes_printed answer.possibly p e cut said))
          (level_printed names c test w answer.definitely d f holds level said').1;
    }

-- ---- what is said of Possibly

module _ (c : Computation) (test : List ℕ → Bool) (w : ℕ) (reported : Possibly) where
  possibly_yes_exactly : (p : PossiblyAnswer) → reported ≡ printed_possibly p → IsSoundPossibly c test w p → IsKnown p
      → ((cut : List ℕ) × (reported ≡ Possibly.Yes cut)) ↔ observations.Possibly c test
  possibly_yes_exactly (PossiblyYes cut) e sound known = (λ said. (cut, sound.0, sound.1), λ holds. (cut, e))
  possibly_yes_exactly PossiblyNo e none known =
      (λ said. let other : reported ≡ Possibly.Yes said.0 = said.1 in absurd (cc), λ holds. absurd (none holds))
  possibly_yes_exactly (PossiblyUnknown k) e unknown known = absurd (known k refl)

  possibly_no_exactly : (p : PossiblyAnswer) → reported ≡ printed_possibly p → IsSoundPossibly c test w p → IsKnown p
      → (reported ≡ Possibly.No) ↔ (¬ observations.Possibly c test)
  possibly_no_exactly (PossiblyYes cut) e sound known =
      (λ said. absurd (cc), λ none. absurd (none (cut, sound.0, sound.1)))
  possibly_no_exactly PossiblyNo e none known = (λ said. none, λ holds. e)
  possibly_no_exactly (PossiblyUnknown k) e unknown known = absurd (known k refl)

  cut_printed : (p : PossiblyAnswer) → reported ≡ printed_possibly p → IsSoundPossibly c test w p → (cut : List ℕ)
      → reported ≡ Possibly.Yes cut → IsConsistent c cut × (test cut ≡ true)
  cut_printed p e sound cut said = subst (IsSoundPossibly c test w) (yes_printed reported p e cut said) sound

-- ---- what is said of Definitely

module _ (names : List ProcessNames) (c : Computation) (test : List ℕ → Bool) (w : ℕ) (reported : Definitely) where
  definitely_yes_exactly : (d : DefinitelyAnswer) → reported ≡ printed_definitely names d → IsSoundDefinitely c test w d
      → IsFound d → ((level : ℕ) × (reported ≡ Definitely.Yes level)) ↔ observations.Definitely c test
  definitely_yes_exactly (DefinitelyYes level) e (every, none, is_level) known = (λ said. every, λ holds. (level, e))
  definitely_yes_exactly (DefinitelyNo path) e (not_every, printed) known =
      (λ said. let other : reported ≡ Definitely.Yes said.0 = said.1 in absurd (cc), λ holds. absurd (not_every holds))
  definitely_yes_exactly (DefinitelyUnknown k) e u known = absurd (known k refl)

  definitely_no_exactly : (d : DefinitelyAnswer) → reported ≡ printed_definitely names d → IsSoundDefinitely c test w d
      → IsFound d → ((path : List (List ℕ)) × (reported ≡ Definitely.No path)) ↔ (¬ observations.Definitely c test)
  definitely_no_exactly (DefinitelyYes level) e (every, none, is_level) known =
      (λ said. let other : reported ≡ Definitely.No said.0 = said.1 in absurd (cc), λ not_all. absurd (not_all every))
  definitely_no_exactly (DefinitelyNo path) e (not_every, printed) known =
      (λ said. not_every, λ holds. (map (name_of_process names) path, e))
  definitely_no_exactly (DefinitelyUnknown k) e u known = absurd (known k refl)

-- ---- one answer

says_possibly : (c : Computation) (test : List ℕ → Bool) (w : ℕ) (reported : Possibly) (p : PossiblyAnswer)
    → reported ≡ printed_possibly p → IsSoundPossibly c test w p → IsKnown p → SaysPossibly c test reported
says_possibly c test w reported p e sound known = record {
  yes_exactly = possibly_yes_exactly c test w reported p e sound known;
  no_exactly = possibly_no_exactly c test w reported p e sound known;
  cut_satisfies = cut_printed c test w reported p e sound;
}

says_definitely : (names : List ProcessNames) (c : Computation) (test : List ℕ → Bool) (w : ℕ) (reported : Definitely)
    (d : DefinitelyAnswer) → reported ≡ printed_definitely names d → IsSoundDefinitely c test w d → IsFound d
    → SaysDefinitely names c test reported
says_definitely names c test w reported d e sound known = record {
  yes_exactly = definitely_yes_exactly names c test w reported d e sound known;
  no_exactly = definitely_no_exactly names c test w reported d e sound known;
  path_avoids = path_printed names c test w reported d e sound;
}

module _ (document : Document) (r : Recorded) (acyclic : HasNoCycle r.events) (asked : NamedPredicate) (answer : Answer)
    (a : IsAnswered document r asked answer) where
  p : PossiblyAt document r asked.predicate a.possibly
  p = possibly_at document r asked.predicate a.possibly a.possibly_right

  d : DefinitelyAt document r asked.predicate a.definitely
  d = definitely_at document r asked.predicate a.definitely acyclic a.definitely_right

  agrees : AnswersAgree answer
  agrees =
      answers_agree document.names r.events (test_of r asked.predicate) document.width answer acyclic a.possibly
      a.possibly_reported p.sound p.first a.definitely a.definitely_reported d.sound

  is_sound : IsSound document.names r.events (test_of r asked.predicate) answer
  is_sound = record {
    possibly_yes = cut_printed r.events (test_of r asked.predicate) document.width answer.possibly a.possibly
        a.possibly_reported p.sound;
    possibly_no = no_printed r.events (test_of r asked.predicate) document.width answer.possibly a.possibly
        a.possibly_reported p.sound;
    definitely_yes = level_printed document.names r.events (test_of r asked.predicate) document.width
        answer.definitely a.definitely a.definitely_reported d.sound;
    definitely_no = path_printed document.names r.events (test_of r asked.predicate) document.width answer.definitely
        a.definitely a.definitely_reported d.sound;
  }

  says_truly : (coverage : Coverage) → (coverage.possibly r asked.predicate → IsKnown a.possibly)
      → (coverage.definitely r asked.predicate → IsFound a.definitely)
      → SaysTruly coverage document.names r asked.predicate answer
  says_truly coverage known found = record {
    possibly = λ covered. says_possibly r.events (test_of r asked.predicate) document.width answer.possibly a.possibly
        a.possibly_reported p.sound (known covered);
    definitely = λ covered. says_definitely document.names r.events (test_of r asked.predicate) document.width
        answer.definitely a.definitely a.definitely_reported d.sound (found covered);
    sound = is_sound;
    agrees = agrees;
  }

  -- with no level over the width, of each predicate
  says_each : IsNarrow r.events document.width → SaysTruly each_predicate document.names r asked.predicate answer
  says_each narrow = says_truly each_predicate (λ _. p.known narrow) (λ _. d.known narrow)

  -- if that is asked for, of each that is decided
  says_decided : document.beyond_width ≡ true
      → SaysTruly (each_decided document.width) document.names r asked.predicate answer
  says_decided beyond =
      says_truly (each_decided document.width) (p.known_if_decided beyond) (d.known_if_decided beyond)

-- ---- the report

no_fault : (version : Version) (c : Computation) → HasLawfulMessages version c → (fault : Fault)
    → ¬ IsReported version c fault
no_fault version c lawful (SendTwice e) r = lawful.sent_once e r.0
no_fault version c lawful (Orphan e) r = lawful.received_well e r.1.0
no_fault version c lawful (SelfMessage e) r = lawful.received_well e r.1.0
no_fault version c lawful (ReceivedTwice e) r = lawful.received_well e r.1.0

no_cycle_reported : (c : Computation) → HasNoCycle c → (cycle : List Place) → ¬ IsReportedCycle c cycle
no_cycle_reported c acyclic cycle r = (none_stuck c).0 acyclic r.first r.least.0.0

all_zip_map : {A B : Type 0} → (R S : A → B → Type 0) → ((x : A) (y : B) → R x y → S x y) → (xs : List A) (ys : List B)
    → AllZip R xs ys → AllZip S xs ys
all_zip_map R S f [] [] h = tt
all_zip_map R S f [] (y ∷ ys) h = h
all_zip_map R S f (x ∷ xs) [] h = h
all_zip_map R S f (x ∷ xs) (y ∷ ys) h = (f x y h.0, all_zip_map R S f xs ys h.1)

-- a report tells what each of its answers says
tells_truth : (coverage : Coverage) (document : Document) (traces : List Trace) (report : Report)
    → IsWellFormed document.version (events_of_traces traces)
    → ((asked : NamedPredicate) (answer : Answer) → IsAnswered document (recorded_of document traces) asked answer
    → SaysTruly coverage document.names (recorded_of document traces) asked.predicate answer)
    → IsTracesReport document traces report → TellsTruth coverage document traces report
tells_truth coverage document traces report formed says (of_messages fault r) =
    absurd (no_fault document.version (events_of_traces traces) formed.messages fault r)
tells_truth coverage document traces report formed says (of_cycle cycle lawful r) =
    absurd (no_cycle_reported (events_of_traces traces) formed.no_cycle cycle r)
tells_truth coverage document traces report formed says (of_answers messages answers formed' are answered) =
    record {
      messages = messages;
      answers = answers;
      reported = refl;
      counted = are;
      truly = all_zip_map (IsAnswered document (recorded_of document traces)) (AnswersTruly coverage document traces)
          (λ asked answer a. (a.name, says asked answer a)) document.predicates answers answered;
    }

pub headline_lem : Headline
headline_lem document traces report formed narrow right =
    tells_truth each_predicate document traces report formed
    (λ asked answer a. says_each document (recorded_of document traces) formed.no_cycle asked answer a narrow) right

pub headline_beyond_width_lem : HeadlineBeyondWidth
headline_beyond_width_lem document traces report formed beyond right =
    tells_truth (each_decided document.width) document traces report formed
    (λ asked answer a. says_decided document (recorded_of document traces) formed.no_cycle asked answer a beyond) right

-- ---- at every width

all_agree : (document : Document) (traces : List Trace) → HasNoCycle (events_of_traces traces)
    → (asked : List NamedPredicate) (answers : List Answer)
    → AllZip (IsAnswered document (recorded_of document traces)) asked answers → All AnswersAgree answers
all_agree document traces acyclic [] [] each = All-nil AnswersAgree
all_agree document traces acyclic [] (y ∷ answers) each = absurd each
all_agree document traces acyclic (x ∷ asked) [] each = absurd each
all_agree document traces acyclic (x ∷ asked) (y ∷ answers) each =
    All-cons AnswersAgree y answers (agrees document (recorded_of document traces) acyclic x y each.0)
    (all_agree document traces acyclic asked answers each.1)

pub reports_agree_lem : ReportsAgree
reports_agree_lem document traces report (of_messages fault r) = tt
reports_agree_lem document traces report (of_cycle cycle lawful r) = tt
reports_agree_lem document traces report (of_answers messages answers formed are answered) =
    all_agree document traces formed.no_cycle document.predicates answers answered
