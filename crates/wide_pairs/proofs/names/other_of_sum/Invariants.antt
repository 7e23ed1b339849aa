-- What the loop over terms keeps: those that are seen name no process but these two.
use Rattle.std.proofs.Common.{ℕ, drop}
use Rattle.pd_pred.specs.Trees.{terms_view}
use Rattle.def_model.specs.Decided.{NamePair}
use Rattle.wide_pairs.proofs.names.other_of_sum.Given as goal

abbrev pub invariant-loop-signed : goal.invariant-loop-signed
invariant-loop-signed l = record {
  rest : (x y : ℕ) → NamePair x y (terms_view l.sum.terms.items)
      → NamePair x y (terms_view (drop l.signed-index l.sum.terms.items));
  seen : NamePair l.p l.q (terms_view (drop l.signed-index l.sum.terms.items))
      → NamePair l.p l.q (terms_view l.sum.terms.items);
}
