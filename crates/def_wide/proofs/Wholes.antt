-- What decides Possibly as a whole does so by its parts.
use Rattle.std.proofs.Common.{inl, inr, arith}
use Rattle.std.specs.Prelude.{Bool, true, false, not}
use Rattle.def_model.specs.Decided.{DecidesPossibly}
use Rattle.def_model.specs.Predicates.{Predicate, Always, Never, Compare, Not, And, Or, Recorded}
use Rattle.def_wide.specs.Laws.{DefinitelyAfterPossibly, WholeIsDecided}
use Rattle.def_wide.specs.Parts.{PartsDecide, opposite_if}

-- both sides of an `or` decide
sides : (r : Recorded) (left right : Predicate) → DecidesPossibly r (Or left right)
    → DecidesPossibly r left × DecidesPossibly r right
sides r left right (inl (p, q, order, there, names)) =
    (inl (p, q, order, there, names.0), inl (p, q, order, there, names.1))
sides r left right (inr (local, few)) = (inr (local.0, omega (arith, few)), inr (local.1, omega (arith, few)))

-- and so do those of an `and` that is negated
negated_sides : (r : Recorded) (left right : Predicate) → DecidesPossibly r (Not (And left right))
    → DecidesPossibly r (Not left) × DecidesPossibly r (Not right)
negated_sides r left right (inl (p, q, order, there, names)) =
    (inl (p, q, order, there, names.0), inl (p, q, order, there, names.1))
negated_sides r left right (inr (local, few)) =
    (inr (local.0, omega (arith, few)), inr (local.1, omega (arith, few)))

-- the opposite of the opposite
twice : (negated : Bool) (r : Recorded) (inner : Predicate) → DecidesPossibly r (opposite_if negated (Not inner))
    → DecidesPossibly r (opposite_if (not negated) inner)
twice true r inner decides = decides
twice false r inner decides = decides

pub whole : (negated : Bool) (r : Recorded) (predicate : Predicate) → DecidesPossibly r (opposite_if negated predicate)
    → PartsDecide negated r predicate
whole negated r Always decides = decides
whole negated r Never decides = decides
whole negated r (Compare left comparison right) decides = decides
whole negated r (Not inner) decides = whole (not negated) r inner (twice negated r inner decides)
whole true r (And left right) decides =
    let both = negated_sides r left right decides in (whole true r left both.0, whole true r right both.1)
whole false r (And left right) decides = decides
whole true r (Or left right) decides = decides
whole false r (Or left right) decides =
    let both = sides r left right decides in (whole false r left both.0, whole false r right both.1)

pub whole_is_decided : WholeIsDecided
whole_is_decided r predicate decides = inl (whole false r predicate decides)

pub definitely_after_possibly : DefinitelyAfterPossibly
definitely_after_possibly r predicate (inl (inl two)) = whole_is_decided r predicate (inl two)
definitely_after_possibly r predicate (inl (inr terms)) = whole_is_decided r predicate (inr terms.0)
definitely_after_possibly r predicate (inr never) = never.0
