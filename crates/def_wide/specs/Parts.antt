-- The parts of a predicate that is an `or`, and Possibly of each.
use Rattle.std.specs.Prelude.{ℕ, Bool, true, false, cond, not, List, Option, Some, None}
use Rattle.def_model.specs.Answers.{IsFirstSatisfying}
use Rattle.def_model.specs.Decided.{DecidesPossibly}
use Rattle.def_model.specs.Events.{Computation}
use Rattle.def_model.specs.Observations.{Possibly}
use Rattle.def_model.specs.Predicates.{Predicate, Not, And, Or, Recorded}

-- the predicate, or its opposite if it is negated
abbrev pub opposite_if : (negated : Bool) → Predicate → Predicate
opposite_if negated predicate = cond negated (Not predicate) predicate

-- Each part of the predicate decides Possibly, or each of its opposite if it is negated. An `or` has the parts of its
-- sides, and so has an `and` that is negated; what is neither is one part.
abbrev pub PartsDecide : (negated : Bool) → Recorded → Predicate → Type 0
PartsDecide negated r (Not inner) = PartsDecide (not negated) r inner
PartsDecide false r (Or left right) = PartsDecide false r left × PartsDecide false r right
PartsDecide true r (And left right) = PartsDecide true r left × PartsDecide true r right
PartsDecide negated r part = DecidesPossibly r (opposite_if negated part)

-- the first satisfying cut, or none satisfies
abbrev pub IsFirstIfAny : Computation → (List ℕ → Bool) → Option (List ℕ) → Type 0
IsFirstIfAny c test None = ¬ Possibly c test
IsFirstIfAny c test (Some cut) = IsFirstSatisfying c test cut
