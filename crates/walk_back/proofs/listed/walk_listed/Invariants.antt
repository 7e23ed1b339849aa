-- What the loop of `walk_listed` keeps.
use Rattle.std.proofs.Common.{◌<◌, ◌≤◌, ◌+◌, ◌-◌}
use Rattle.def_model.specs.Cuts.{total}
use Rattle.walk_back.specs.Listed.{IsAt}
use Rattle.walk_back.specs.Questions.{IsSplitTo, question_events, question_test}
use Rattle.walk_back.proofs.listed.walk_listed.Given as goal

abbrev pub invariant-loop-k : goal.invariant-loop-k
invariant-loop-k g l = record {
  within : l.k ≤ total (question_events l.question);
  at : IsAt (question_events l.question) (question_test l.question) l.k l.split.held.walked.items;
  split : IsSplitTo l.question (l.k + 1) l.split;
  two : 0 < l.k → 2 ≤ l.split.held.most;
  no_fewer : l.fn.split.held.most ≤ l.split.held.most;
}

abbrev pub decreases-loop-k : goal.decreases-loop-k
decreases-loop-k g l = l.total - l.k
