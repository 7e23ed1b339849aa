-- While none satisfies, all consistent cuts avoid.
use Rattle.std.proofs.Common.{◌≡◌, ℕ, ◌+◌, Bool, List, sum, ◌↔◌, arith}
use Rattle.def_model.specs.Answers.{LeavesAvoiding}
use Rattle.def_model.specs.Cuts.{IsOfLevel, one_less}
use Rattle.def_model.specs.Events.{Computation}
use Rattle.def_model.specs.Order.{HasNoCycle}
use Rattle.def_model.specs.Walks.{NoneBelow}
use Rattle.def_model.proofs.AvoidingCuts.{all_reached}
use Rattle.def_model.proofs.Counts.{sum_less}
use Rattle.def_model.proofs.Paths.{avoiding_level}
use Rattle.walk_back.specs.Ways.{LeavesConsistent}

-- while no cut below the level of this one satisfies, to leave an avoiding cut is to leave a consistent one
pub free_leaves : (c : Computation) → HasNoCycle c → (test : List ℕ → Bool) (cut : List ℕ)
    → NoneBelow c test (sum cut) → (p : ℕ) → LeavesAvoiding c test cut p ↔ LeavesConsistent c cut p
free_leaves c acyclic test cut none p = (to, from)
  where
    to : LeavesAvoiding c test cut p → LeavesConsistent c cut p
    to (has, below) = (has, (avoiding_level c test (sum (one_less cut p)) (one_less cut p) below).0)

    from : LeavesConsistent c cut p → LeavesAvoiding c test cut p
    from (has, ok) =
        let s : sum (one_less cut p) + 1 ≡ sum cut = sum_less cut p has in
        let level : IsOfLevel c (sum (one_less cut p)) (one_less cut p) = (ok, omega arith) in (
          has,
          all_reached c acyclic test (sum (one_less cut p)) (λ j other lt at. none j other (omega arith) at)
              (one_less cut p) level (none (sum (one_less cut p)) (one_less cut p) (omega arith) level),
        )
