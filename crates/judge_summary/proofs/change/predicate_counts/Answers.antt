-- The answers for one predicate more, or a value that is none.
use Rattle.serde_json.specs.View.{view}
use Rattle.judge_summary.specs.Summaries.{predicate_counts}
use Rattle.judge_summary.specs.Views.{numbered_view}
use Rattle.judge_summary.proofs.Gathered.{goes_on, predicate_stops, predicates_end}
use Rattle.judge_summary.proofs.change.predicate_counts.Goals as goal

pub returns-in-None : goal.returns-in-None
returns-in-None c =
    predicate_stops c.args.predicates.now c.loop-predicate.predicate-index c.predicate-item.result
    (numbered_view c.loop-predicate.counts.items) c.loop-predicate-test.true c.predicate-item.is
    (rw c.in-None.is at c.in_ok-found.ensures)

pub loop-predicate-preserved : goal.loop-predicate-preserved
loop-predicate-preserved c =
    goes_on (λ value. predicate_counts (view value)) c.args.predicates.now c.loop-predicate.predicate-index
    c.predicate-item.result (numbered_view c.loop-predicate.counts.items)
    (numbered_view c.push_predicate.new.texts.items)
    c.loop-predicate-test.true c.predicate-item.is c.loop-predicate.invariant (rw c.in-Some.is at c.in_ok-found.ensures)

pub returns : goal.returns
returns c =
    predicates_end c.args.predicates.now c.loop-predicate.predicate-index
    (numbered_view c.loop-predicate.counts.items) c.loop-predicate-test.false c.loop-predicate.invariant
