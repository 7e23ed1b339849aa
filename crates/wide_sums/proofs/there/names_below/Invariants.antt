-- What the loop over terms keeps: those that are seen name no process past these.
use Rattle.std.proofs.Common.{drop}
use Rattle.pd_pred.specs.Trees.{terms_view}
use Rattle.def_wide.specs.Sums.{NameBelow}
use Rattle.wide_sums.proofs.there.names_below.Given as goal

abbrev pub invariant-loop-signed : goal.invariant-loop-signed
invariant-loop-signed l = record {
  rest : NameBelow l.processes (terms_view l.sum.terms.items)
      → NameBelow l.processes (terms_view (drop l.signed-index l.sum.terms.items));
  seen : NameBelow l.processes (terms_view (drop l.signed-index l.sum.terms.items))
      → NameBelow l.processes (terms_view l.sum.terms.items);
}
