-- The least level of a spot at which the predicate surely holds.
use Rattle.std.proofs.Common.{Bool, true, false, List, ℕ, length, subst}
use Rattle.std.specs.Prelude.{MatchOption}
use Rattle.def_wide.specs.Sums.{NamesNoOther}
use Rattle.pd_pred.specs.Trees.{tree_view}
use Rattle.wide_gates.specs.Least.{IsLeastFlagged, NoneFlagged}
use Rattle.wide_gates.specs.Levels.{AreLevels}
use Rattle.wide_gates.specs.Sure.{AreWhere}
use Rattle.wide_gates.specs.declared.spot.Spot.{Spot}
use Rattle.wide_gates.proofs.LeastGate.{found_least}
use Rattle.wide_gates.proofs.least.least_gate.Goals as goal

none : Spot
none = record { place = record { process = 0; number = 0 }; after = false }

pub returns : goal.returns
returns c =
    found_least c.args.computation.now (tree_view c.args.tree.now) c.in_ok-spots.spots.items
    c.in_ok-sure.sure.items c.in_ok-levels.levels.items c.in_ok-spots.ensures
    (subst
    (λ (spots : List Spot). AreWhere true c.args.computation.now spots (tree_view c.args.tree.now)
    c.in_ok-sure.sure.items) c.deref-2.ensures.value c.in_ok-sure.ensures)
    (subst (λ (spots : List Spot). AreLevels c.args.computation.now.events spots c.in_ok-levels.levels.items)
    c.deref-3.ensures.value c.in_ok-levels.ensures) none
    (subst (λ (n : ℕ). NamesNoOther n (tree_view c.args.tree.now)) c.processes.ensures
    (c.names_no_other.ensures.0 c.if-not-names_no_other.false))
    c.least_flagged.result
    (subst
    (λ (t : List ℕ × List Bool). MatchOption c.least_flagged.result (NoneFlagged t.1 (length t.1))
    (IsLeastFlagged t.0 t.1 (length t.1))) (λ i. (c.deref-4.ensures.value i, c.deref-5.ensures.value i))
    c.least_flagged.ensures)
