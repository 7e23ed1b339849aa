-- A connection that joins a process for the first time is let in.
use Rattle.std.proofs.Common.{ap}
use Rattle.app_door.specs.Doors.{token_view}
use Rattle.app_door.specs.declared.door.Door.{Door}
use Rattle.app_door.proofs.Admissions.{let_in}
use Rattle.app_door.proofs.room.Room+PlaceConnection+S.next_out.Goals as goal

pub returns-in-Joins-clause-joined : goal.returns-in-Joins-clause-joined
returns-in-Joins-clause-joined g c = λ none.
    let kept = c.loop-place.invariant in
    let_in c.loop-place.self.door.spec.now.names c.args.self.now.door.spec.now.names
    (token_view c.loop-place.self.door.token) (token_view c.args.self.now.door.token)
    c.loop-place.self.joined.items c.args.self.now.joined.items c.join.new.self.joined.items c.in-Joins.process
    c.look.new.self.connection (ap (λ (door : Door). door.spec.now.names) kept.door)
    (ap (λ (door : Door). token_view door.token) kept.door) kept.joined
    (c.in_ok-look.ensures c.in-Joins.process c.in-Joins.is)
    (c.in_ok-is_first-in-Joins.ensures.first (c.taken_reason.ensures.first none))
