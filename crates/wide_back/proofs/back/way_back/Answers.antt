-- If the full cut satisfies, the search comes to no dead end.
use Rattle.std.proofs.Common.{◌≡◌, sym, ap, ◌∙◌}
use Rattle.def_model.specs.Predicates.{test_of}
use Rattle.pd_pred.specs.Views.{predicate_view}
use Rattle.wide_back.proofs.Deciding.{passed_at_once}
use Rattle.wide_back.proofs.back.way_back.Goals as goal

pub returns-then-holds : goal.returns-then-holds
returns-then-holds c =
    let same : c.holds.result
    ≡ test_of c.args.computation.now (predicate_view c.args.pred.now) c.whole_cut-full.result =
    search (c.holds.ensures, c.at.ensures) in
    passed_at_once c.args.computation.now (predicate_view c.args.pred.now) c.args.limit
    (sym (ap (test_of c.args.computation.now (predicate_view c.args.pred.now)) c.whole_cut-full.ensures)
    ∙ (sym same ∙ c.if-holds.true))
