-- The answers for the predicates so far.
use Rattle.std.proofs.Common.{◌≡◌, take}
use Rattle.std.specs.Prelude.{Some}
use Rattle.serde_json.specs.View.{view}
use Rattle.judge_summary.specs.Summaries.{predicate_counts}
use Rattle.judge_summary.specs.Views.{numbered_view}
use Rattle.judge_summary.proofs.Gathered.{gathered}
use Rattle.judge_summary.proofs.change.predicate_counts.Given as goal

abbrev pub invariant-loop-predicate : goal.invariant-loop-predicate
invariant-loop-predicate l =
    gathered (λ value. predicate_counts (view value)) (take l.predicate-index l.predicates)
    ≡ Some (numbered_view l.counts.items)
