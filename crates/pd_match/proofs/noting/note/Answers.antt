-- Notes the place where an id stands.
use Rattle.pd_match.proofs.Ids.{noted_update}
use Rattle.pd_match.proofs.noting.note.Goals as goal

pub returns-clause-noted : goal.returns-clause-noted
returns-clause-noted g c = λ other.
    noted_update c.args.places.now c.insert.new.self c.args.id other c.args.here c.in_ok-insert.ensures.updates
