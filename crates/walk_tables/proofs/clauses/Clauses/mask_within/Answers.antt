-- One bit more.
use Rattle.std.proofs.Common.{◌∙◌, arith, below_more}
use Rattle.walk_tables.proofs.clauses.Clauses.mask_within.Goals as goal

pub loop-j-preserved : goal.loop-j-preserved
loop-j-preserved c =
    let kept = c.loop-j.invariant in
    record {
      within = λ prefix base.
          below_more _ _ (λ k h. c.put-mask.ensures.others k (λ eq. omega (arith, eq)) ∙ kept.within prefix base k h)
          (c.put-mask.ensures.bit ∙ c.holds_within-truth.ensures prefix base);
      beyond = λ k h. c.put-mask.ensures.others k (λ eq. omega (arith, eq)) ∙ kept.beyond k (omega arith);
    }
