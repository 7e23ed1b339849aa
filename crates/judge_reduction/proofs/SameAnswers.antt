-- A run and one of some of its processes have the same answers.
use Rattle.std.proofs.Common.{List, ℕ, All, [], ◌∷◌, length}
use Rattle.std.specs.List.{AllZip}
use Rattle.std.proofs.lemmas.List.Elements.{All-head, All-tail}
use Rattle.def_model.specs.Predicates.{Recorded}
use Rattle.def_format.specs.Documents.{NamedPredicate}
use Rattle.def_orders.specs.Laws.{DefinitelyOfPart, PossiblyOfPart}
use Rattle.def_orders.specs.Orders.{IsOver, ProcessOrder}
use Rattle.def_orders.specs.Selections.{HaveOnePart, numbers_in}
use Rattle.def_recordings.specs.Reductions.{HaveSameAnswers, IsSamePredicate}

module _ (possibly : PossiblyOfPart) (definitely : DefinitelyOfPart) (r r' : Recorded) (places : List ℕ)
    (named : List (List ℕ)) (order part : List ProcessOrder) (one : HaveOnePart r r' places named order part) where
  abbrev Over : NamedPredicate → Type 0
  Over asked = IsOver named asked.predicate

  abbrev Same : NamedPredicate → NamedPredicate → Type 0
  Same = IsSamePredicate (numbers_in places (length r.events))

  same_answer : (asked image : NamedPredicate) → Over asked → Same asked image → HaveSameAnswers r r' asked image
  same_answer asked image over same = record {
    possibly = possibly r r' places named order part asked.predicate image.predicate one over same.1;
    definitely = definitely r r' places named order part asked.predicate image.predicate one over same.1;
  }

  -- each predicate whose variables are all seen has the same answers
  pub same_answers : (predicates images : List NamedPredicate) → All Over predicates → AllZip Same predicates images
      → AllZip (HaveSameAnswers r r') predicates images
  same_answers [] [] over same = tt
  same_answers [] (image ∷ images) over same = absurd same
  same_answers (asked ∷ predicates) [] over same = absurd same
  same_answers (asked ∷ predicates) (image ∷ images) over same = (
    same_answer asked image (All-head Over asked predicates over) same.0,
    same_answers predicates images (All-tail Over asked predicates over) same.1,
  )
