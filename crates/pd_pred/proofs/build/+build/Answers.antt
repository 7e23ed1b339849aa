-- The tree of the predicate that the tokens spell, the end among them.
use Rattle.std.proofs.Common.{◌<◌, length, arith, rules}
use Rattle.def_format.specs.Tokens.{OpenParen}
use Rattle.def_format.specs.Grammar.{OrRule, AndRule, word_or, word_and, word_not}
use Rattle.pd_pred.specs.Trees.{tree_view}
use Rattle.pd_pred.proofs.Prefixes.{readable_rest, readable_follows, fewer_follow}
use Rattle.pd_pred.proofs.RulesRead.{alone_in_or, alone_in_and, one_more_in_or, one_more_in_and, leads_after_or, leads_after_and, leads_after_not, negation_is_read, truth_is_read, falsehood_is_read, leads_after_paren, parens_are_read}
use Rattle.pd_pred.proofs.build.+build.Goals as goal

pub conjunction-loop-following-init : goal.conjunction-loop-following-init
conjunction-loop-following-init t c =
    alone_in_and c.args.names.now c.args.tokens.now c.in_ok-tree.rest.now (tree_view c.in_ok-tree.tree)
    c.in_ok-tree.ensures

pub conjunction-operand-requires-in-Some : goal.conjunction-operand-requires-in-Some
conjunction-operand-requires-in-Some t c =
    let so_far = c.loop-following.invariant in
    let fewer : length c.in-Some.following.now < length c.args.tokens.now =
    omega (
      arith,
      so_far.fewer,
      fewer_follow word_and c.loop-following.rest.now c.in-Some.following.now
          c.in-Some.ensures,
    ) in (
      search rules,
      (
        readable_follows c.args.names.now word_and c.loop-following.rest.now c.in-Some.following.now c.in-Some.ensures
            (readable_rest c.args.names.now c.args.tokens.now so_far.prefix c.loop-following.rest.now so_far.parts
            c.requires.readable),
        leads_after_and c.args.names.now AndRule c.args.tokens.now c.loop-following.rest.now c.in-Some.following.now
            (tree_view c.loop-following.tree) c.requires.leads so_far c.in-Some.ensures,
      ),
    )

pub conjunction-loop-following-preserved : goal.conjunction-loop-following-preserved
conjunction-loop-following-preserved t c =
    let read =
    one_more_in_and c.args.names.now c.args.tokens.now c.loop-following.rest.now c.in-Some.following.now
    c.in_ok-right.later.now (tree_view c.loop-following.tree) (tree_view c.in_ok-right.right) c.loop-following.invariant
    c.in-Some.ensures c.in_ok-right.ensures in
    rw (c.in_ok-left.ensures.ok, c.in_ok-right-2.ensures.ok) read

pub disjunction-loop-following-init : goal.disjunction-loop-following-init
disjunction-loop-following-init t c = record {
  read = alone_in_or c.args.names.now c.args.tokens.now c.in_ok-tree.rest.now (tree_view c.in_ok-tree.tree)
      c.in_ok-tree.ensures.read;
  stops_at_and = c.in_ok-tree.ensures.stops_at_and;
}

pub disjunction-conjunction-requires-in-Some : goal.disjunction-conjunction-requires-in-Some
disjunction-conjunction-requires-in-Some t c =
    let so_far = c.loop-following.invariant.read in
    let fewer : length c.in-Some.following.now < length c.args.tokens.now =
    omega (
      arith,
      so_far.fewer,
      fewer_follow word_or c.loop-following.rest.now c.in-Some.following.now
          c.in-Some.ensures,
    ) in (
      search rules,
      (
        readable_follows c.args.names.now word_or c.loop-following.rest.now c.in-Some.following.now c.in-Some.ensures
            (readable_rest c.args.names.now c.args.tokens.now so_far.prefix c.loop-following.rest.now so_far.parts
            c.requires.readable),
        leads_after_or c.args.names.now OrRule c.args.tokens.now c.loop-following.rest.now c.in-Some.following.now
            (tree_view c.loop-following.tree) c.requires.leads so_far c.in-Some.ensures,
      ),
    )

pub disjunction-loop-following-preserved : goal.disjunction-loop-following-preserved
disjunction-loop-following-preserved t c =
    let read =
    one_more_in_or c.args.names.now c.args.tokens.now c.loop-following.rest.now c.in-Some.following.now
    c.in_ok-right.later.now (tree_view c.loop-following.tree) (tree_view c.in_ok-right.right)
    c.loop-following.invariant.read c.in-Some.ensures c.in_ok-right.ensures.read in
    record {
      read = rw (c.in_ok-left.ensures.ok, c.in_ok-right-2.ensures.ok) read;
      stops_at_and = c.in_ok-right.ensures.stops_at_and;
    }

pub operand-disjunction-requires : goal.operand-disjunction-requires
operand-disjunction-requires t c =
    let fewer : length c.in-Paren.inside.now < length c.args.tokens.now =
    omega (arith, fewer_follow OpenParen c.args.tokens.now c.in-Paren.inside.now c.in-Paren.ensures) in (
      search rules,
      (
        readable_follows c.args.names.now OpenParen c.args.tokens.now c.in-Paren.inside.now c.in-Paren.ensures
            c.requires.readable,
        leads_after_paren c.args.tokens.now c.in-Paren.inside.now c.requires.leads c.in-Paren.ensures,
      ),
    )

pub operand-operand-requires : goal.operand-operand-requires
operand-operand-requires t c =
    let fewer : length c.in-Negation.following.now < length c.args.tokens.now =
    omega (arith, fewer_follow word_not c.args.tokens.now c.in-Negation.following.now c.in-Negation.ensures) in (
      search rules,
      (
        readable_follows c.args.names.now word_not c.args.tokens.now c.in-Negation.following.now c.in-Negation.ensures
            c.requires.readable,
        leads_after_not c.args.tokens.now c.in-Negation.following.now c.requires.leads c.in-Negation.ensures,
      ),
    )

pub operand-returns-in_ok-tree-in-Paren : goal.operand-returns-in_ok-tree-in-Paren
operand-returns-in_ok-tree-in-Paren t c =
    let inside = c.in_ok-tree-in-Paren in
    parens_are_read c.args.names.now c.args.tokens.now c.in-Paren.inside.now inside.closing.now c.after_first.result.now
    c.after_first.ensures.0 (tree_view inside.tree) c.requires.leads c.in-Paren.ensures inside.ensures.read
    inside.ensures.stops_at_and inside.ensures.stops_at_or c.after_first.ensures.1

pub operand-returns-in_ok-operand-in-Negation-2 : goal.operand-returns-in_ok-operand-in-Negation-2
operand-returns-in_ok-operand-in-Negation-2 t c =
    let read =
    negation_is_read c.args.names.now c.args.tokens.now c.in-Negation.following.now
    c.in_ok-operand-in-Negation.rest.now (tree_view c.in_ok-operand-in-Negation.operand) c.in-Negation.ensures
    c.in_ok-operand-in-Negation.ensures in
    rw c.in_ok-operand-in-Negation-2.ensures.ok read

pub operand-returns-in-Truth : goal.operand-returns-in-Truth
operand-returns-in-Truth t c = truth_is_read c.args.names.now c.args.tokens.now c.in-Truth.rest.now c.in-Truth.ensures

pub operand-returns-in-Falsehood : goal.operand-returns-in-Falsehood
operand-returns-in-Falsehood t c =
    falsehood_is_read c.args.names.now c.args.tokens.now c.in-Falsehood.rest.now c.in-Falsehood.ensures
