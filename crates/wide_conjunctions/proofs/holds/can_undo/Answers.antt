-- What is newly known of the process takes the old one's place.
use Rattle.std.proofs.Common.{ℕ, List, refl, subst}
use Rattle.wide_conjunctions.specs.Holds.{IsHold}
use Rattle.wide_conjunctions.proofs.HoldSteps.{holds_set}
use Rattle.wide_conjunctions.proofs.holds.can_undo.Goals as goal

pub returns-clause-same : goal.returns-clause-same
returns-clause-same c =
    holds_set c.args.computation.now.events c.args.cut.now c.args.p c.args.holds.now _ c.hold_of-hold.result
    c.requires.within c.requires.holds
    (subst (λ (cut : List ℕ). IsHold c.args.computation.now.events cut c.args.p c.hold_of-hold.result)
    c.counts-counts.ensures c.hold_of-hold.ensures.hold) refl
