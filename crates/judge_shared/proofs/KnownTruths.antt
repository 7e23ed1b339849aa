-- Answers of a judgement of which none is unknown are the truth, also without their evidence, and of each run with the
-- same truths.
use Rattle.std.proofs.Common.{◌≡◌, ◌↔◌, ℕ, Bool, true, false, ◌&&◌, List, [], ◌∷◌, map, All, refl, sym, subst}
use Rattle.std.specs.List.{AllZip, list_all}
use Rattle.std.proofs.lemmas.Bool.{false≢true}
use Rattle.std.proofs.lemmas.List.Elements.{All-head, All-tail}
use Rattle.def_model.specs.Answers.{DefinitelyAnswer, DefinitelyNo, DefinitelyUnknown, DefinitelyYes, PossiblyAnswer, PossiblyNo, PossiblyUnknown, PossiblyYes}
use Rattle.def_model.specs.Events.{Computation}
use Rattle.def_model.specs.Observations as observations
use Rattle.def_model.specs.Order.{HasNoCycle}
use Rattle.def_model.specs.Predicates.{Predicate, Recorded, test_of}
use Rattle.def_format.specs.Documents.{Document, NamedPredicate}
use Rattle.def_format.specs.Names.{ProcessNames}
use Rattle.def_format.specs.Reports.{Answer, Definitely, Possibly}
use Rattle.def_judgement.proofs.Answered.{IsSoundDefinitely, IsSoundPossibly, definitely_at, possibly_at}
use Rattle.def_judgement.specs.Judgements.{IsAnswered, printed_definitely, printed_possibly}
use Rattle.judge_shared.specs.SharedReports.{AnswersRightly, IsRight}
use Rattle.judge_shared.specs.Sharing.{bare, bare_definitely, bare_possibly, is_definitely_known, is_known, is_possibly_known}

left_true : (a b : Bool) → (a && b) ≡ true → a ≡ true
left_true true b both = refl
left_true false b both = both

right_true : (a b : Bool) → (a && b) ≡ true → b ≡ true
right_true true b both = both
right_true false b both = absurd (false≢true both)

-- ---- one answer

-- what is said of Possibly without the cut is the truth, if it is known
possibly_right : (c : Computation) (test : List ℕ → Bool) (w : ℕ) (p : PossiblyAnswer) → IsSoundPossibly c test w p
    → is_possibly_known (printed_possibly p) ≡ true
    → ((bare_possibly (printed_possibly p) ≡ Possibly.Yes []) ↔ observations.Possibly c test)
    × ((bare_possibly (printed_possibly p) ≡ Possibly.No) ↔ (¬ observations.Possibly c test))
possibly_right c test w (PossiblyYes cut) sound known = (
  (λ said. (cut, sound.0, sound.1), λ holds. refl),
  (λ said. absurd (cc), λ none. absurd (none (cut, sound.0, sound.1))),
)
possibly_right c test w PossiblyNo none known =
    ((λ said. absurd (cc), λ holds. absurd (none holds)), (λ said. none, λ _. refl))
possibly_right c test w (PossiblyUnknown level) unknown known = absurd (false≢true known)

-- the same of Definitely
definitely_right : (names : List ProcessNames) (c : Computation) (test : List ℕ → Bool) (w : ℕ) (d : DefinitelyAnswer)
    → IsSoundDefinitely c test w d → is_definitely_known (printed_definitely names d) ≡ true
    → ((bare_definitely (printed_definitely names d) ≡ Definitely.Yes 0) ↔ observations.Definitely c test)
    × ((bare_definitely (printed_definitely names d) ≡ Definitely.No []) ↔ (¬ observations.Definitely c test))
definitely_right names c test w (DefinitelyYes level) sound known =
    ((λ said. sound.0, λ holds. refl), (λ said. absurd (cc), λ none. absurd (none sound.0)))
definitely_right names c test w (DefinitelyNo path) sound known =
    ((λ said. absurd (cc), λ holds. absurd (sound.0 holds)), (λ said. sound.0, λ _. refl))
definitely_right names c test w (DefinitelyUnknown level) unknown known = absurd (false≢true known)

answered_right : (document : Document) (r : Recorded) (asked : NamedPredicate) (answer : Answer) → HasNoCycle r.events
    → IsAnswered document r asked answer → is_known answer ≡ true → AnswersRightly r asked (bare answer)
answered_right document r asked answer acyclic answered known = (
  answered.name,
  record {
    possibly_yes = possibly.0;
    possibly_no = possibly.1;
    definitely_yes = definitely.0;
    definitely_no = definitely.1;
  },
)
  where
    test : List ℕ → Bool
    test = test_of r asked.predicate

    possibly : ((bare_possibly answer.possibly ≡ Possibly.Yes []) ↔ observations.Possibly r.events test)
        × ((bare_possibly answer.possibly ≡ Possibly.No) ↔ (¬ observations.Possibly r.events test))
    possibly =
        subst (λ (said : Possibly). is_possibly_known said ≡ true
        → ((bare_possibly said ≡ Possibly.Yes []) ↔ observations.Possibly r.events test)
        × ((bare_possibly said ≡ Possibly.No) ↔ (¬ observations.Possibly r.events test)))
        (sym answered.possibly_reported)
        (possibly_right r.events test document.width answered.possibly
        (possibly_at document r asked.predicate answered.possibly answered.possibly_right).sound)
        (left_true (is_possibly_known answer.possibly) (is_definitely_known answer.definitely) known)

    definitely : ((bare_definitely answer.definitely ≡ Definitely.Yes 0) ↔ observations.Definitely r.events test)
        × ((bare_definitely answer.definitely ≡ Definitely.No []) ↔ (¬ observations.Definitely r.events test))
    definitely =
        subst (λ (said : Definitely). is_definitely_known said ≡ true
        → ((bare_definitely said ≡ Definitely.Yes 0) ↔ observations.Definitely r.events test)
        × ((bare_definitely said ≡ Definitely.No []) ↔ (¬ observations.Definitely r.events test)))
        (sym answered.definitely_reported)
        (definitely_right document.names r.events test document.width answered.definitely
        (definitely_at document r asked.predicate answered.definitely acyclic answered.definitely_right).sound)
        (right_true (is_possibly_known answer.possibly) (is_definitely_known answer.definitely) known)

-- the answers of a judgement, if none is unknown
pub all_answered_right : (document : Document) (r : Recorded) → HasNoCycle r.events → (asked : List NamedPredicate)
    (answers : List Answer) → AllZip (IsAnswered document r) asked answers → list_all is_known answers ≡ true
    → AllZip (AnswersRightly r) asked (map bare answers)
all_answered_right document r acyclic [] [] answered known = tt
all_answered_right document r acyclic [] (answer ∷ answers) answered known = absurd answered
all_answered_right document r acyclic (predicate ∷ asked) [] answered known = absurd answered
all_answered_right document r acyclic (predicate ∷ asked) (answer ∷ answers) answered known = (
  answered_right document r predicate answer acyclic answered.0
      (left_true (is_known answer) (list_all is_known answers) known),
  all_answered_right document r acyclic asked answers answered.1
      (right_true (is_known answer) (list_all is_known answers) known),
)

-- ---- what is without evidence stays so

bare_possibly_twice : (possibly : Possibly) → bare_possibly (bare_possibly possibly) ≡ bare_possibly possibly
bare_possibly_twice (Possibly.Yes cut) = refl
bare_possibly_twice Possibly.No = refl
bare_possibly_twice (Possibly.Unknown level) = refl

bare_definitely_twice : (definitely : Definitely)
    → bare_definitely (bare_definitely definitely) ≡ bare_definitely definitely
bare_definitely_twice (Definitely.Yes level) = refl
bare_definitely_twice (Definitely.No path) = refl
bare_definitely_twice (Definitely.Unknown level) = refl

pub bare_twice : (answers : List Answer) → map bare (map bare answers) ≡ map bare answers
bare_twice [] = refl
bare_twice (answer ∷ rest) =
    (λ i. record {
      name = answer.name;
      possibly = bare_possibly_twice answer.possibly i;
      definitely = bare_definitely_twice answer.definitely i;
    } ∷ bare_twice rest i)

-- ---- of another run

-- the same truth of both questions
abbrev pub HaveSameAnswers : (r r' : Recorded) → Predicate → Type 0
HaveSameAnswers r r' predicate =
    (observations.Possibly r.events (test_of r predicate) ↔ observations.Possibly r'.events (test_of r' predicate))
    × (observations.Definitely r.events (test_of r predicate)
    ↔ observations.Definitely r'.events (test_of r' predicate))

also_not : {A B C : Type 0} → (A ↔ (¬ B)) → (B ↔ C) → A ↔ (¬ C)
also_not left right = (λ a c. left.0 a (right.1 c), λ none. left.1 (λ b. none (right.0 b)))

also : {A B C : Type 0} → (A ↔ B) → (B ↔ C) → A ↔ C
also left right = (λ a. right.0 (left.0 a), λ c. left.1 (right.1 c))

right_too : (r r' : Recorded) (predicate : Predicate) (answer : Answer) → HaveSameAnswers r r' predicate
    → IsRight r.events (test_of r predicate) answer → IsRight r'.events (test_of r' predicate) answer
right_too r r' predicate answer same right = record {
  possibly_yes = also right.possibly_yes same.0;
  possibly_no = also_not right.possibly_no same.0;
  definitely_yes = also right.definitely_yes same.1;
  definitely_no = also_not right.definitely_no same.1;
}

-- answers that are right of a run are right of another run with the same truths
pub all_right_too : (r r' : Recorded) (asked : List NamedPredicate) (found : List Answer)
    → AllZip (AnswersRightly r) asked found
    → All (λ (predicate : NamedPredicate). HaveSameAnswers r r' predicate.predicate) asked
    → AllZip (AnswersRightly r') asked found
all_right_too r r' [] [] right same = tt
all_right_too r r' [] (answer ∷ found) right same = absurd right
all_right_too r r' (predicate ∷ asked) [] right same = absurd right
all_right_too r r' (predicate ∷ asked) (answer ∷ found) right same = (
  (
    right.0.0,
    right_too r r' predicate.predicate answer
        (All-head (λ (predicate : NamedPredicate). HaveSameAnswers r r' predicate.predicate) predicate asked same)
        right.0.1,
  ),
  all_right_too r r' asked found right.1
      (All-tail (λ (predicate : NamedPredicate). HaveSameAnswers r r' predicate.predicate) predicate asked same),
)
