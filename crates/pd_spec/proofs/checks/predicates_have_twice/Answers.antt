-- That `predicates_have_twice` meets its contract.
use Rattle.pd_spec.proofs.OutlineViews.{texts_of-predicates}
use Rattle.pd_spec.proofs.checks.predicates_have_twice.Goals as goal

pub returns : goal.returns
returns c =
    rw (← texts_of-predicates c.args.predicates.now, ← c.in_ok-names.ensures, ← c.deref.ensures.value)
    c.has_twice.ensures
