-- The rows of the predicate are a clause, of which the level is found.
use Rattle.std.proofs.Common.{◌≡◌, List, [], refl, subst}
use Rattle.std.specs.Prelude.{false}
use Rattle.wide_conjunctions.specs.Clauses.{IsClause}
use Rattle.def_model.specs.Predicates.{Predicate, Recorded, test_of}
use Rattle.pd_pred.specs.Trees.{tree_view}
use Rattle.pd_pred.specs.Views.{predicate_view}
use Rattle.wide_terms.specs.Ors.{IsLocalOr, MakesRows, clause_good}
use Rattle.wide_terms.specs.declared.row.TruthRow.{TruthRow}
use Rattle.wide_terms.proofs.Oring.{is_clause_of}
use Rattle.wide_terms.proofs.clause.definitely_by_clause.Goals as goal

made_clause : (r : Recorded) (tree predicate : Predicate) (none rows : List TruthRow) → tree ≡ predicate → none ≡ []
    → MakesRows r false tree none rows → IsClause r.events (test_of r predicate) (clause_good rows)
made_clause r tree predicate none rows same empty made =
    is_clause_of r false predicate rows
    (subst (λ (p : Predicate). MakesRows r false p [] rows) same
    (subst (λ (old : List TruthRow). MakesRows r false tree old rows) empty made))

pub returns-in-Some : goal.returns-in-Some
returns-in-Some c =
    let predicate = predicate_view c.args.pred.now in
    let found = (rw c.in-Some.is at c.in_ok-level.ensures.some) (test_of c.args.computation.now predicate)
    (made_clause c.args.computation.now (tree_view c.tree-tree.result.now) predicate c.new-rows.result.items
    c.push_rows.new.rows.items c.tree-tree.ensures c.new-rows.ensures.items c.in_ok-push_rows.ensures) in (
      subst IsLocalOr c.tree-tree.ensures (c.if-not-is_local.ensures.0 refl, c.if-not-is_or.ensures.0 refl),
      found.0,
      found.1,
    )

pub returns : goal.returns
returns c =
    let predicate = predicate_view c.args.pred.now in (
      subst IsLocalOr c.tree-tree.ensures (c.if-not-is_local.ensures.0 refl, c.if-not-is_or.ensures.0 refl),
      (rw c.in-None.is at c.in_ok-level.ensures.none) (test_of c.args.computation.now predicate)
          (made_clause c.args.computation.now (tree_view c.tree-tree.result.now) predicate c.new-rows.result.items
          c.push_rows.new.rows.items c.tree-tree.ensures c.new-rows.ensures.items c.in_ok-push_rows.ensures),
    )
