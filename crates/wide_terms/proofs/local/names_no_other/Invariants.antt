-- What the loop over terms keeps: those that are seen name no other process.
use Rattle.std.proofs.Common.{drop}
use Rattle.pd_pred.specs.Trees.{terms_view}
use Rattle.def_model.specs.Decided.{NameAlone}
use Rattle.wide_terms.proofs.local.names_no_other.Given as goal

abbrev pub invariant-loop-signed : goal.invariant-loop-signed
invariant-loop-signed l = record {
  rest : NameAlone l.process (terms_view l.sum.terms.items)
      → NameAlone l.process (terms_view (drop l.signed-index l.sum.terms.items));
  seen : NameAlone l.process (terms_view (drop l.signed-index l.sum.terms.items))
      → NameAlone l.process (terms_view l.sum.terms.items);
}
