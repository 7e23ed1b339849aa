-- A name's place.
use Rattle.std.proofs.Common.{◌∙◌, sym}
use Rattle.def_format.specs.Limits.{process_limit}
use Rattle.pd_report.proofs.Places.{known_at}
use Rattle.pd_report.proofs.path.place_of.Goals as goal

pub returns-in-Some-clause-place : goal.returns-in-Some-clause-place
returns-in-Some-clause-place c =
    known_at c.args.names.now.items process_limit c.args.name.now c.in-Some.step
    (rw c.deref.ensures.value at (sym c.known_place.ensures ∙ c.in-Some.is))
