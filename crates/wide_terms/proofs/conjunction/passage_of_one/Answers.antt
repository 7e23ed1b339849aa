-- The opposite of a predicate of one term is an `or` of comparisons, of which none may hold.
use Rattle.std.proofs.Common.{◌≡◌, List, [], subst, sym, false, true}
use Rattle.wide_conjunctions.specs.Boxes.{IsConjunction}
use Rattle.wide_conjunctions.specs.Passages.{IsPassage}
use Rattle.def_model.specs.Predicates.{Predicate, Recorded, test_of}
use Rattle.pd_pred.specs.Trees.{tree_view}
use Rattle.pd_pred.specs.Views.{predicate_view}
use Rattle.wide_terms.specs.Conjunctions.{none_good}
use Rattle.def_model.specs.Decided.{IsOr}
use Rattle.wide_terms.specs.Ors.{MakesRows}
use Rattle.wide_terms.specs.Passages.{IsPassageOf}
use Rattle.wide_terms.specs.declared.row.TruthRow.{TruthRow}
use Rattle.wide_terms.proofs.Conjoining.{is_conjunction, ok_weaker, opposite_or, passage_for}
use Rattle.wide_terms.proofs.conjunction.passage_of_one.Goals as goal

made_conjunction : (r : Recorded) (tree predicate : Predicate) (none rows : List TruthRow) → tree ≡ predicate
    → none ≡ [] → MakesRows r true tree none rows → IsConjunction r.events (test_of r predicate) (none_good rows)
made_conjunction r tree predicate none rows same empty made =
    is_conjunction r predicate rows
    (subst (λ (p : Predicate). MakesRows r true p [] rows) same
    (subst (λ (old : List TruthRow). MakesRows r true tree old rows) empty made))

pub push_rows-requires-clause-is_or : goal.push_rows-requires-clause-is_or
push_rows-requires-clause-is_or c =
    subst (IsOr true) (sym c.tree.ensures) (opposite_or false (predicate_view c.args.pred.now) c.requires.single)

pub returns : goal.returns
returns c =
    let r = c.args.computation.now in
    let predicate = predicate_view c.args.pred.now in
    let rows = c.push_rows.new.rows.items in
    ok_weaker (IsPassage r.events (none_good rows)) (IsPassageOf r.events (test_of r predicate))
    c.definitely_all_good.result
    (λ passage is. passage_for r.events (none_good rows) (test_of r predicate) passage
    (made_conjunction r (tree_view c.tree.result.now) predicate c.new-rows.result.items rows c.tree.ensures
    c.new-rows.ensures.items c.in_ok-push_rows.ensures) is) c.definitely_all_good.ensures
