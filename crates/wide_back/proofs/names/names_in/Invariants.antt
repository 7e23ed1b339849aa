-- What the loop over terms keeps: what is left of the sum names the process if the whole does.
use Rattle.std.proofs.Common.{◌≡◌, drop}
use Rattle.def_wide.specs.DeadEnds.{sum_names}
use Rattle.pd_pred.specs.Trees.{sum_view, terms_view}
use Rattle.wide_back.proofs.names.names_in.Given as goal

abbrev pub invariant-loop-signed : goal.invariant-loop-signed
invariant-loop-signed l =
    sum_names l.p (sum_view l.sum) ≡ sum_names l.p (terms_view (drop l.signed-index l.sum.terms.items))
