-- What the search keeps.
use Rattle.std.specs.Prelude.{length}
use Rattle.judge_causes.specs.Asked.{asked_predicate, asked_run}
use Rattle.judge_causes.specs.Search.{IsStage}
use Rattle.judge_causes.proofs.search.search_from.Given as goal

abbrev pub invariant-loop-search : goal.invariant-loop-search
invariant-loop-search g l = IsStage (asked_run l.asked) (asked_predicate l.asked) l.search

abbrev pub decreases-loop-search : goal.decreases-loop-search
decreases-loop-search g l = length l.search.candidates.items
