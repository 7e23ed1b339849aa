-- There are few terms, and one if no more than one.
use Rattle.std.proofs.Common.{◌≡◌, ◌≤◌, ℕ, false, inl, inr, refl, subst, arith}
use Rattle.std.specs.Prelude.{min}
use Rattle.def_model.specs.Predicates.{Predicate}
use Rattle.pd_pred.specs.Trees.{tree_view}
use Rattle.pd_pred.specs.Views.{predicate_view}
use Rattle.def_model.specs.Decided.{IsLocal, term_count}
use Rattle.wide_terms.proofs.Conjoining.{one_at_least, single}
use Rattle.wide_terms.proofs.passage.definitely_by_terms.Goals as goal

-- the terms of the tree are those of the predicate
single_of : (tree predicate : Predicate) (many : ℕ) → tree ≡ predicate
    → many ≡ min (term_count false tree) 18446744073709551615 → many ≤ 1 → term_count false predicate ≡ 1
single_of tree predicate many same is few =
    single (term_count false predicate) many (one_at_least false predicate)
    (subst (λ (p : Predicate). many ≡ min (term_count false p) 18446744073709551615) same is) few

pub passage_of_one-requires-clause-single : goal.passage_of_one-requires-clause-single
passage_of_one-requires-clause-single c =
    single_of (tree_view c.tree-tree.result.now) (predicate_view c.args.pred.now) c.count-many.result
    c.tree-tree.ensures c.count-many.ensures (omega (arith, c.if-many-gt1.false))

pub returns : goal.returns
returns c =
    let predicate = predicate_view c.args.pred.now in
    let one : term_count false predicate ≡ 1 =
    single_of (tree_view c.tree-tree.result.now) predicate c.count-many.result c.tree-tree.ensures c.count-many.ensures
    (omega (arith, c.if-many-gt1.false)) in
    c.decided.ensures c.args.computation.now predicate
    ((subst IsLocal c.tree-tree.ensures (c.if-not-is_local.ensures.0 refl), omega (arith, one)), inr (inl one))
    c.in_ok-passage.ensures
