-- One bit more.
use Rattle.std.proofs.Common.{◌∙◌, arith, below_more}
use Rattle.walk_tables.proofs.choice.Choice.mask_after.Goals as goal

pub loop-j-preserved : goal.loop-j-preserved
loop-j-preserved c =
    let kept = c.loop-j.invariant in
    record {
      within = λ prefix is.
          below_more _ _ (λ k h. c.put-mask.ensures.others k (λ eq. omega (arith, eq)) ∙ kept.within prefix is k h)
          (c.put-mask.ensures.bit ∙ c.holds-truth.ensures prefix is);
      beyond = λ k h. c.put-mask.ensures.others k (λ eq. omega (arith, eq)) ∙ kept.beyond k (omega arith);
    }
