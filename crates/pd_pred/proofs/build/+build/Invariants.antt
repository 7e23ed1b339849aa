-- What the loops of `+build` keep.
use Rattle.std.proofs.Common.{◌+◌, ◌*◌, length}
use Rattle.std.specs.Prelude.{IsFalse, codes}
use Rattle.def_format.specs.Grammar.{OrRule, AndRule}
use Rattle.pd_pred.specs.Building.{IsRead, begins_with_word, tokens_view}
use Rattle.pd_pred.specs.Trees.{tree_view}
use Rattle.pd_pred.proofs.build.+build.Given as goal

-- Each call inside a pair of parentheses or after a word has fewer tokens left.
abbrev pub decreases-disjunction : goal.decreases-disjunction
decreases-disjunction l = 3 * length l.tokens.now + 2

abbrev pub decreases-conjunction : goal.decreases-conjunction
decreases-conjunction l = 3 * length l.tokens.now + 1

abbrev pub decreases-operand : goal.decreases-operand
decreases-operand l = 3 * length l.tokens.now

abbrev pub invariant-disjunction-loop-following : goal.invariant-disjunction-loop-following
invariant-disjunction-loop-following l = record {
  read : IsRead l.names OrRule l.tokens l.rest (tree_view l.tree);
  stops_at_and : IsFalse (begins_with_word (codes "and") (tokens_view l.rest));
}

abbrev pub decreases-disjunction-loop-following : goal.decreases-disjunction-loop-following
decreases-disjunction-loop-following l = length l.rest

abbrev pub invariant-conjunction-loop-following : goal.invariant-conjunction-loop-following
invariant-conjunction-loop-following l = IsRead l.names AndRule l.tokens l.rest (tree_view l.tree)

abbrev pub decreases-conjunction-loop-following : goal.decreases-conjunction-loop-following
decreases-conjunction-loop-following l = length l.rest
