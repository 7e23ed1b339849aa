-- The answers of a reduction are right of the run.
use Rattle.std.proofs.Common.{◌≡◌, ℕ, List, [], ◌∷◌, All, sym, subst}
use Rattle.std.specs.List.{AllZip}
use Rattle.std.proofs.lemmas.List.Elements.{All-head, All-tail}
use Rattle.def_model.specs.Answers.{DefinitelyAnswer, DefinitelyNo, DefinitelyUnknown, DefinitelyYes, PossiblyAnswer, PossiblyNo, PossiblyUnknown, PossiblyYes}
use Rattle.def_model.specs.Observations.{Definitely, Possibly}
use Rattle.def_model.specs.Order.{HasNoCycle}
use Rattle.def_model.specs.Predicates.{Predicate, Recorded, test_of}
use Rattle.def_format.specs.Documents.{Document, NamedPredicate}
use Rattle.def_format.specs.Names.{ProcessNames}
use Rattle.def_format.specs.Reports as reports
use Rattle.def_judgement.proofs.Answered.{IsSoundDefinitely, IsSoundPossibly, definitely_at, possibly_at}
use Rattle.def_judgement.specs.Judgements.{IsAnswered, printed_definitely, printed_possibly}
use Rattle.judge_lifted.specs.Truths.{IsDefinitelyOf, IsPossiblyOf, IsTruthOf}
use Rattle.judge_reduced.specs.Laws.{DefinitelyOfReducedRun, PossiblyOfReducedRun}
use Rattle.judge_reduced.specs.Reductions.{IsReductionOf, reduced_view}
use Rattle.read_traces.specs.declared.event.Trace.{Trace}

-- what is possible of a run is possible of another, and so of Definitely
record HaveSameAnswers (r r' : Recorded) (asked : NamedPredicate) : Type 0 where
  possible : Possibly r'.events (test_of r' asked.predicate) → Possibly r.events (test_of r asked.predicate)
  definite : Definitely r.events (test_of r asked.predicate) → Definitely r'.events (test_of r' asked.predicate)
  definite' : Definitely r'.events (test_of r' asked.predicate) → Definitely r.events (test_of r asked.predicate)

possibly_of : (r r' : Recorded) (predicate : Predicate) (w : ℕ) (p : PossiblyAnswer)
    → (Possibly r'.events (test_of r' predicate) → Possibly r.events (test_of r predicate))
    → IsSoundPossibly r.events (test_of r predicate) w p → IsPossiblyOf r' predicate (printed_possibly p)
possibly_of r r' predicate w (PossiblyYes cut) same sound = tt
possibly_of r r' predicate w PossiblyNo same none = λ possible. none (same possible)
possibly_of r r' predicate w (PossiblyUnknown level) same unknown = tt

definitely_of : (names : List ProcessNames) (r r' : Recorded) (predicate : Predicate) (w : ℕ) (d : DefinitelyAnswer)
    → (Definitely r.events (test_of r predicate) → Definitely r'.events (test_of r' predicate))
    → (Definitely r'.events (test_of r' predicate) → Definitely r.events (test_of r predicate))
    → IsSoundDefinitely r.events (test_of r predicate) w d → IsDefinitelyOf r' predicate (printed_definitely names d)
definitely_of names r r' predicate w (DefinitelyYes level) same same' sound = same sound.0
definitely_of names r r' predicate w (DefinitelyNo path) same same' sound = λ holds. sound.0 (same' holds)
definitely_of names r r' predicate w (DefinitelyUnknown level) same same' unknown = tt

truth_of : (document : Document) (r r' : Recorded) (asked : NamedPredicate) (answer : reports.Answer)
    → HasNoCycle r.events → HaveSameAnswers r r' asked → IsAnswered document r asked answer
    → IsTruthOf r' asked answer
truth_of document r r' asked answer acyclic same answered = record {
  possibly = subst (λ (said : reports.Possibly). IsPossiblyOf r' asked.predicate said)
      (sym answered.possibly_reported)
      (possibly_of r r' asked.predicate document.width answered.possibly same.possible
      (possibly_at document r asked.predicate answered.possibly answered.possibly_right).sound);
  definitely = subst (λ (said : reports.Definitely). IsDefinitelyOf r' asked.predicate said)
      (sym answered.definitely_reported)
      (definitely_of document.names r r' asked.predicate document.width answered.definitely same.definite
      same.definite'
      (definitely_at document r asked.predicate answered.definitely acyclic answered.definitely_right).sound);
}

truths_of : (document : Document) (r r' : Recorded) → HasNoCycle r.events → (asked : List NamedPredicate)
    (answers : List reports.Answer) → All (HaveSameAnswers r r') asked → AllZip (IsAnswered document r) asked answers
    → AllZip (IsTruthOf r') asked answers
truths_of document r r' acyclic [] [] same answered = tt
truths_of document r r' acyclic [] (answer ∷ answers) same answered = absurd answered
truths_of document r r' acyclic (predicate ∷ asked) [] same answered = absurd answered
truths_of document r r' acyclic (predicate ∷ asked) (answer ∷ answers) same answered = (
  truth_of document r r' predicate answer acyclic (All-head (HaveSameAnswers r r') predicate asked same) answered.0,
  truths_of document r r' acyclic asked answers (All-tail (HaveSameAnswers r r') predicate asked same) answered.1,
)

same_answers : PossiblyOfReducedRun → DefinitelyOfReducedRun → (document : Document) (r : Recorded)
    (traces : List Trace) → HasNoCycle r.events → IsReductionOf document r traces
    → All (HaveSameAnswers (reduced_view r traces) r) document.predicates
same_answers possibly definitely document r traces acyclic is place d within = record {
  possible = (possibly document r traces acyclic is place d within).0;
  definite = (definitely document r traces acyclic is place d within).1;
  definite' = (definitely document r traces acyclic is place d within).0;
}

-- the answers of the computation of the reduction, which begins as the run does
pub reduced_truths : PossiblyOfReducedRun → DefinitelyOfReducedRun → (document : Document) (r made : Recorded)
    (traces : List Trace) (answers : List reports.Answer) → HasNoCycle r.events → IsReductionOf document r traces
    → made ≡ reduced_view r traces → AllZip (IsAnswered document made) document.predicates answers
    → AllZip (IsTruthOf r) document.predicates answers
reduced_truths possibly definitely document r made traces answers acyclic is begins answered =
    truths_of document (reduced_view r traces) r is.no_cycle document.predicates answers
    (same_answers possibly definitely document r traces acyclic is)
    (subst (λ (of : Recorded). AllZip (IsAnswered document of) document.predicates answers) begins answered)
