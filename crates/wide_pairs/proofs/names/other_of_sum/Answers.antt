-- One term more that names no other process.
use Rattle.pd_pred.specs.declared.tree.Sign.TheVariants.{Plus}
use Rattle.pd_pred.specs.declared.tree.Term.TheVariants.{Number}
use Rattle.wide_pairs.proofs.Naming.{both_name, first_names}
use Rattle.wide_pairs.proofs.names.other_of_sum.Goals as goal

pub returns-in-Some : goal.returns-in-Some
returns-in-Some c = (
  c.in-Some.ensures.0,
  c.in-Some.ensures.1,
  λ x y names.
      c.in-Some.ensures.2 x y (first_names x y c.deref-signed-items.result.now c.args.sum.now.terms.items
      c.loop-signed.signed-index _ c.deref-signed-items.ensures.value c.loop-signed-test.true
      (c.loop-signed.invariant.rest x y names)).0,
)

pub loop-signed-preserved : goal.loop-signed-preserved
loop-signed-preserved c = record {
  rest = λ x y names.
      (first_names x y c.deref-signed-items.result.now c.args.sum.now.terms.items c.loop-signed.signed-index
      (record { sign = Plus; term = Number 0 }) c.deref-signed-items.ensures.value c.loop-signed-test.true
      (c.loop-signed.invariant.rest x y names)).1;
  seen = λ rest.
      c.loop-signed.invariant.seen (both_name c.args.p c.args.q c.deref-signed-items.result.now
      c.args.sum.now.terms.items c.loop-signed.signed-index _ c.deref-signed-items.ensures.value
      c.loop-signed-test.true c.in-None.ensures rest);
}
