-- Terms with their signs; a first plus isn't written.
use Rattle.std.proofs.Common.{arith}
use Rattle.def_format.specs.Tokens.{Signs}
use Rattle.pd_pred.specs.Trees.{sign_view, term_view, terms_view}
use Rattle.pd_pred.proofs.Prefixes.{readable_rest, readable_follows, fewer_follow}
use Rattle.pd_pred.proofs.TermsRead.{readable_after_first, first_is_read, more_is_read, terms-append}
use Rattle.pd_pred.proofs.build.sum.Goals as goal

pub term-first-requires-clause-readable : goal.term-first-requires-clause-readable
term-first-requires-clause-readable c =
    readable_after_first c.args.names.now (sign_view c.first_sign-sign.result.0) c.args.tokens.now
    c.first_sign-sign.result.1.now c.first_sign-sign.ensures c.requires.readable

pub loop-sign-init : goal.loop-sign-init
loop-sign-init c =
    let read =
    first_is_read c.args.names.now (sign_view c.first_sign-sign.result.0) (term_view c.term-first.result.0)
    c.args.tokens.now c.first_sign-sign.result.1.now c.term-first.result.1.now c.first_sign-sign.ensures
    c.term-first.ensures in
    record {
      read = rw (c.in_ok-push.ensures.items, c.new-terms.ensures.items) read;
      few = omega (arith, read.fewer, c.in_ok-push.ensures.len, c.new-terms.ensures.len);
    }

pub term-next-requires-clause-readable : goal.term-next-requires-clause-readable
term-next-requires-clause-readable c =
    readable_follows c.args.names.now (Signs (sign_view c.in-Some.sign)) c.loop-sign.rest.now c.in-Some.following.now
    c.in-Some.ensures
    (readable_rest c.args.names.now c.args.tokens.now c.loop-sign.invariant.read.prefix c.loop-sign.rest.now
    c.loop-sign.invariant.read.parts c.requires.readable)

pub loop-sign-preserved : goal.loop-sign-preserved
loop-sign-preserved c =
    let read =
    more_is_read c.args.names.now (sign_view c.in-Some.sign) (terms_view c.loop-sign.terms.items)
    (term_view c.term-next.result.0) c.args.tokens.now c.loop-sign.rest.now c.in-Some.following.now
    c.term-next.result.1.now c.loop-sign.invariant.read c.in-Some.ensures c.term-next.ensures in
    record {
      read = rw (c.in_ok-push-2.ensures.items, terms-append) read;
      few = omega (
        arith,
        c.loop-sign.invariant.few,
        c.term-next.ensures.fewer,
        fewer_follow _ _ _ c.in-Some.ensures,
        c.in_ok-push-2.ensures.len,
      );
    }
