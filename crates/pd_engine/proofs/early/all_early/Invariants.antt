-- What is decided of the predicates so far.
use Rattle.std.proofs.Common.{◌≡◌, ◌<◌, ℕ, get_or, length}
use Rattle.wide.specs.Found.{IsPathIfKnown}
use Rattle.pd_engine.specs.Early.{IsEarly}
use Rattle.pd_engine.specs.declared.early.Early.{Early}
use Rattle.pd_spec.specs.Views.{document_view}
use Rattle.pd_spec.specs.declared.named.NamedPred.{NamedPred}
use Rattle.pd_engine.proofs.early.all_early.Given as goal

abbrev pub invariant-loop-i : goal.invariant-loop-i
invariant-loop-i g l = record {
  one_each : length l.each.items ≡ l.i;
  right : (j : ℕ) (named : NamedPred) (early : Early) → j < l.i
      → IsEarly (document_view l.spec) l.computation l.left.items (get_or l.asked j named)
      (get_or l.each.items j early);
  path : IsPathIfKnown l.computation.events l.path;
}
