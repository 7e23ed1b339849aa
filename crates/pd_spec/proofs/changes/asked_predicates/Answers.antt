-- One more predicate.
use Rattle.std.proofs.Common.{[], ◌∷◌, length-append, arith}
use Rattle.pd_spec.proofs.AskedItems.{one_more}
use Rattle.pd_spec.proofs.changes.asked_predicates.Goals as goal

pub loop-text-preserved : goal.loop-text-preserved
loop-text-preserved c =
    rw c.in_ok-push.ensures.items (record {
      count = omega (
        arith,
        c.loop-text.invariant.count,
        length-append c.loop-text.values.items (c.in_ok-asked_predicate.field-0 ∷ []),
      );
      asked = one_more c.args.texts.now c.loop-text.text-index _ c.loop-text.values.items
          c.in_ok-asked_predicate.field-0 _ c.loop-text-test.true
          (omega (arith, c.len.ensures, c.loop-text.invariant.count)) c.loop-text.invariant.asked
          c.in_ok-asked_predicate.ensures;
    })
