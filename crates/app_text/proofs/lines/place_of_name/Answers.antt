-- There is one place alone, or not.
use Rattle.app_text.specs.Lines.{sure_places}
use Rattle.app_text.proofs.Places.{one_place, not_one_place}
use Rattle.app_text.proofs.lines.place_of_name.Goals as goal

pub returns-then-count-eq1 : goal.returns-then-count-eq1
returns-then-count-eq1 c =
    one_place (sure_places c.args.name.now c.args.bytes.now) c.places_of_name-count.result.0
    c.places_of_name-count.result.1
    c.places_of_name-count.ensures.count c.places_of_name-count.ensures.last c.if-count-eq1.true

pub returns-else-count-eq1 : goal.returns-else-count-eq1
returns-else-count-eq1 c =
    not_one_place (sure_places c.args.name.now c.args.bytes.now) c.places_of_name-count.result.0
    c.places_of_name-count.ensures.count c.if-count-eq1.false
