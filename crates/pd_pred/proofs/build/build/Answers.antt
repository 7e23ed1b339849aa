-- The tree of the predicate that the tokens spell, the end among them.
use Rattle.pd_pred.specs.Tokens.{lexed_view}
use Rattle.pd_pred.specs.Trees.{tree_view}
use Rattle.pd_pred.proofs.KnownNames.{names_are_known}
use Rattle.pd_pred.proofs.RulesRead.{whole_is_read}
use Rattle.pd_pred.proofs.build.build.Goals as goal

pub disjunction-requires-clause-readable : goal.disjunction-requires-clause-readable
disjunction-requires-clause-readable c = record {
  known = names_are_known c.args.names.now (lexed_view c.args.tokens.now) c.requires.walked c.requires.known;
  fit = c.requires.fit;
  few = c.requires.few;
}

pub returns : goal.returns
returns c =
    whole_is_read c.args.names.now c.args.tokens.now c.in_ok-tree._rest.now (tree_view c.in_ok-tree.tree)
    c.requires.walked c.in_ok-tree.ensures.read c.in_ok-tree.ensures.stops_at_and c.in_ok-tree.ensures.stops_at_or
