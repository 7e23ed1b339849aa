-- A number, a variable, or a number times a variable.
use Rattle.std.proofs.Common.{arith}
use Rattle.pd_pred.proofs.Prefixes.{readable_follows}
use Rattle.def_format.specs.Tokens.{Digits, Star}
use Rattle.pd_pred.proofs.TermsRead.{number_is_read, factor_fits, times_is_read}
use Rattle.pd_pred.proofs.build.term.Goals as goal

pub returns-in_default-after_star : goal.returns-in_default-after_star
returns-in_default-after_star c =
    number_is_read c.args.names.now c.in-Some.number c.args.tokens.now c.in-Some.following.now c.in-Some.ensures
    c.in_default-after_star.ensures

pub reference-process-requires-2-clause-readable : goal.reference-process-requires-2-clause-readable
reference-process-requires-2-clause-readable c =
    readable_follows c.args.names.now Star c.in-Some.following.now c.in-Some-after_star.factored.now
    c.in-Some-after_star.ensures
    (readable_follows c.args.names.now (Digits c.in-Some.number) c.args.tokens.now c.in-Some.following.now
    c.in-Some.ensures c.requires.readable)

pub overflow_cast-term : goal.overflow_cast-term
overflow_cast-term c =
    let bound =
    factor_fits c.in-Some.number c.args.tokens.now c.in-Some.following.now c.in-Some-after_star.factored.now
    c.in-Some.ensures c.in-Some-after_star.ensures c.requires.readable.fit in
    omega arith

pub returns : goal.returns
returns c =
    times_is_read c.args.names.now c.in-Some.number c.reference-process-2.result.0 c.reference-process-2.result.1
    c.args.tokens.now c.in-Some.following.now c.in-Some-after_star.factored.now c.reference-process-2.result.2.now
    c.in-Some.ensures c.in-Some-after_star.ensures c.reference-process-2.ensures
