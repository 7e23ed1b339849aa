-- One more variable is below the count.
use Rattle.std.proofs.Common.{◌<◌, All, take, sym, subst, arith}
use Rattle.std.proofs.lemmas.List.{take_all, take_more}
use Rattle.std.proofs.lemmas.List.Elements.{All-push}
use Rattle.judge_reduced.proofs.images.are_below.Goals as goal

pub loop-var-preserved : goal.loop-var-preserved
loop-var-preserved c =
    subst (All (λ v. v < c.args.count)) (sym (take_more c.args.vars.now c.loop-var.var-index 0 c.loop-var-test.true))
    (All-push (λ v. v < c.args.count) (take c.loop-var.var-index c.args.vars.now) _ c.loop-var.invariant
    (omega (arith, c.if-var-count.false)))

pub returns-clause-yes : goal.returns-clause-yes
returns-clause-yes c = λ same.
    subst (All (λ v. v < c.args.count)) (take_all c.loop-var.var-index c.args.vars.now c.loop-var-test.false)
    c.loop-var.invariant
