-- That `processes_have_twice` meets its contract.
use Rattle.pd_spec.proofs.OutlineViews.{texts_of-processes}
use Rattle.pd_spec.proofs.checks.processes_have_twice.Goals as goal

pub returns : goal.returns
returns c =
    rw (← texts_of-processes c.args.processes.now, ← c.in_ok-names.ensures, ← c.deref.ensures.value) c.has_twice.ensures
