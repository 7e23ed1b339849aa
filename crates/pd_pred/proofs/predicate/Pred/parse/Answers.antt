-- A text that is read is one predicate, by the law of the language over names that are clear.
use Rattle.std.proofs.lemmas.Result.{MatchResult-weaker}
use Rattle.pd_pred.specs.Views.{predicate_view}
use Rattle.pd_pred.proofs.predicate.Pred.parse.Goals as goal

pub returns-clause-single : goal.returns-clause-single
returns-clause-single c =
    let clear = c.distinct_names_are_clear.ensures c.args.names.now c.differ.ensures in
    MatchResult-weaker c.of_short.result c.of_short.ensures.ok (λ pred is other also.
    c.one_predicate.ensures c.args.names.now clear c.args.text.now other (predicate_view pred) also is) (λ error h. h)
