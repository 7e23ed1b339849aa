-- The tokens of a text, with the end as the last.
use Rattle.std.proofs.Common.{◌≡◌, ◌<◌, length, arith}
use Rattle.std.proofs.lemmas.Bool.Decides.{nat_tests}
use Rattle.pd_pred.specs.Tokens.{lexed_view}
use Rattle.pd_pred.proofs.LexedSoFar.{lexed_inside, stray_at, lexed_at_start_in, lexed_more_in, all_lexed_in}
use Rattle.pd_pred.proofs.lexer.lex.Goals as goal

pub loop-token-init : goal.loop-token-init
loop-token-init c = (
  lexed_at_start_in c.args.text.now c.skip_spaces-rest.result.now c.new-tokens.result.items
      c.new-tokens.ensures.items c.skip_spaces-rest.ensures,
  c.skip_spaces-rest.utf8,
)

pub place_of-at-requires-clause-inside : goal.place_of-at-requires-clause-inside
place_of-at-requires-clause-inside c =
    lexed_inside c.args.text.now (lexed_view c.loop-token.tokens.items) c.loop-token.rest.now c.loop-token.invariant.0

pub loop-token-preserved : goal.loop-token-preserved
loop-token-preserved c = (
  lexed_more_in c.args.text.now c.loop-token.tokens.items c.push.new.self.items
      (record { at = c.place_of-at.result; token = c.in-Some.token }) c.loop-token.rest.now c.in-Some.others.now
      c.skip_spaces-rest-in-Some.result.now c.in_ok-push.ensures.items c.loop-token.invariant.0 c.place_of-at.ensures
      c.in-Some.ensures c.skip_spaces-rest-in-Some.ensures,
  c.skip_spaces-rest-in-Some.utf8,
)

pub place_of-at-requires-2-clause-inside : goal.place_of-at-requires-2-clause-inside
place_of-at-requires-2-clause-inside c =
    lexed_inside c.args.text.now (lexed_view c.loop-token.tokens.items) c.loop-token.rest.now c.loop-token.invariant.0

pub returns-then-not-is_empty-clause-err : goal.returns-then-not-is_empty-clause-err
returns-then-not-is_empty-clause-err c =
    let some : 0 < length c.loop-token.rest.now =
    grind (arith, nat_tests, c.is_empty.ensures, c.if-not-is_empty.true) in
    stray_at c.args.text.now (lexed_view c.loop-token.tokens.items) c.loop-token.rest.now c.place_of-at-2.result
    c.loop-token.invariant.0 some c.place_of-at-2.ensures c.in_default.ensures

pub returns-clause-ok : goal.returns-clause-ok
returns-clause-ok c =
    let empty : length c.loop-token.rest.now ≡ 0 =
    grind (arith, nat_tests, c.is_empty.ensures, c.if-not-is_empty.false) in
    all_lexed_in c.args.text.now c.loop-token.tokens.items c.push-2.new.self.items c.place_of-at-2.result
    c.loop-token.rest.now c.in_ok-push-2.ensures.items c.loop-token.invariant.0 empty c.place_of-at-2.ensures
