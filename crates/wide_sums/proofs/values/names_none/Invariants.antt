-- No term names the process if none of those that are left does.
use Rattle.std.proofs.Common.{drop}
use Rattle.pd_pred.specs.Trees.{terms_view}
use Rattle.wide_sums.specs.Unnamed.{NoneNames}
use Rattle.wide_sums.proofs.values.names_none.Given as goal

abbrev pub invariant-loop-signed : goal.invariant-loop-signed
invariant-loop-signed l =
    NoneNames l.process (terms_view (drop l.signed-index l.sum.terms.items))
    → NoneNames l.process (terms_view l.sum.terms.items)
