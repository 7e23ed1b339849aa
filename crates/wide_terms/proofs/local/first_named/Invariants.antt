-- What the loop over terms keeps: those that are seen name no process.
use Rattle.std.proofs.Common.{◌≡◌, drop}
use Rattle.pd_pred.specs.Trees.{terms_view}
use Rattle.wide_terms.specs.Locals.{first_named}
use Rattle.wide_terms.proofs.local.first_named.Given as goal

abbrev pub invariant-loop-signed : goal.invariant-loop-signed
invariant-loop-signed l =
    first_named (terms_view l.sum.terms.items) ≡ first_named (terms_view (drop l.signed-index l.sum.terms.items))
