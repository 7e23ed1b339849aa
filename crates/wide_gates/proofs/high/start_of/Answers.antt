-- A later event of the process happened before no more.
use Rattle.pd_match.specs.Views.{place_view}
use Rattle.wide_gates.proofs.Beside.{none_later}
use Rattle.wide_gates.proofs.high.start_of.Goals as goal

pub returns-then-last-place-2 : goal.returns-then-last-place-2
returns-then-last-place-2 c =
    none_later c.args._computation.now.events (place_view c.args.last) (place_view c.args.place) c.args._q c.args.high
    c.requires.last c.if-last-place.true c.if-last-place-2.true c.requires.none
