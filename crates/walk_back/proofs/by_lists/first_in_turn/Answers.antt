-- No cut of the level satisfies.
use Rattle.std.proofs.Common.{◌<◌, [], ◌∙◌, ap, arith}
use Rattle.std.proofs.lemmas.List.{get_or_default}
use Rattle.def_model.specs.Predicates.{test_of}
use Rattle.pd_pred.specs.Views.{predicate_view}
use Rattle.walk_back.proofs.by_lists.first_in_turn.Goals as goal

pub returns-clause-none : goal.returns-clause-none
returns-clause-none c = λ i d lt.
    let here : i < c.loop-i.i = omega (arith, c.loop-i-test.false, c.len-i-end.ensures) in
    ap (test_of c.args.computation.now (predicate_view c.args.pred.now))
    (get_or_default c.args.level.now.cuts i d [] lt) ∙ c.loop-i.invariant i here
