-- One more term, or none is left.
use Rattle.std.proofs.Common.{◌++◌, ◌∙◌, arith}
use Rattle.pd_pred.specs.Trees.{terms_view}
use Rattle.wide_terms.specs.Changes.{vars_of}
use Rattle.wide_terms.proofs.Changing.{vars_all, vars_more}
use Rattle.wide_terms.proofs.changes.push_vars.Goals as goal

pub loop-signed-preserved : goal.loop-signed-preserved
loop-signed-preserved c =
    vars_more c.loop-signed.vars.items c.push_var.new.vars.items c.deref-signed-items.result.now
    c.args.sum.now.terms.items c.loop-signed.signed-index _ c.deref-signed-items.ensures.value
    c.loop-signed-test.true c.in_ok-push_var.ensures ∙ c.loop-signed.invariant

pub returns : goal.returns
returns c =
    vars_all c.loop-signed.vars.items (c.args.vars.now.items ++ vars_of (terms_view c.args.sum.now.terms.items))
    c.args.sum.now.terms.items c.loop-signed.signed-index (omega arith) c.loop-signed.invariant
