-- The predicate that a text within the limit spells.
use Rattle.std.proofs.Common.{ap, arith, length}
use Rattle.pd_pred.proofs.Reading.{few_tokens}
use Rattle.pd_pred.proofs.predicate.Pred.of_short.Goals as goal

pub build-requires-clause-few : goal.build-requires-clause-few
build-requires-clause-few c =
    let few = few_tokens c.args.text.now c.in-Ok.tokens.items (omega arith) c.in-Ok.ensures.ok in
    let same = ap length c.deref-3.ensures.value in
    omega arith
