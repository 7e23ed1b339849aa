-- The variables of the terms that are seen were added.
use Rattle.std.proofs.Common.{◌≡◌, ◌++◌, drop}
use Rattle.pd_pred.specs.Trees.{terms_view}
use Rattle.wide_terms.specs.Changes.{vars_of}
use Rattle.wide_terms.proofs.changes.push_vars.Given as goal

abbrev pub invariant-loop-signed : goal.invariant-loop-signed
invariant-loop-signed l =
    l.vars.items ++ vars_of (terms_view (drop l.signed-index l.sum.terms.items))
    ≡ l.fn.vars.items ++ vars_of (terms_view l.sum.terms.items)
