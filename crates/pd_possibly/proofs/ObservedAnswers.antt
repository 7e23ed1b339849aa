-- The answer in the wording of cuts is that in the wording of observations.
use Rattle.std.proofs.Common.{Bool, List, ℕ}
use Rattle.def_model.specs.Answers.{IsPossiblyAnswer, PossiblyAnswer, PossiblyNo, PossiblyUnknown, PossiblyYes}
use Rattle.def_model.specs.Events.{Computation}
use Rattle.def_model.specs.Laws.{EveryCutIsObserved, PossiblyBothWays}
use Rattle.def_model.specs.Order.{HasNoCycle}
use Rattle.pd_possibly.specs.Observed.{IsObservedAnswer}

pub observed_answer : (c : Computation) (test : List ℕ → Bool) (width : ℕ) (answer : PossiblyAnswer)
    → EveryCutIsObserved → PossiblyBothWays → HasNoCycle c → IsPossiblyAnswer c test width answer
    → IsObservedAnswer c test answer
observed_answer c test width (PossiblyUnknown k) every both acyclic right = tt
observed_answer c test width (PossiblyYes cut) every both acyclic right =
    let seen = every c acyclic cut right.1.consistent in
    (seen.0, seen.1, seen.2, right.1.satisfies)
observed_answer c test width PossiblyNo every both acyclic right =
    λ observed. right.1 ((both c acyclic test).1 observed)
