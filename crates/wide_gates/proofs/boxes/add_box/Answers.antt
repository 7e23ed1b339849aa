-- The last box stays, or one more comes.
use Rattle.std.proofs.Common.{◌-◌, false, get_or, sym, subst}
use Rattle.wide_gates.specs.Boxes.{IsLastBox}
use Rattle.wide_gates.specs.declared.spot.Spot.{Spot}
use Rattle.wide_gates.proofs.Sharing.{last_box, one_box_more, same_boxes}
use Rattle.wide_gates.proofs.boxes.add_box.Goals as goal

abbrev no_spot : Spot
no_spot = record { place = record { process = 0; number = 0 }; after = false }

pub is_in_last-requires-clause-last : goal.is_in_last-requires-clause-last
is_in_last-requires-clause-last c = λ some d.
    subst (IsLastBox c.args.computation.now.events (get_or c.args.spots.now (c.args.k - 1) d))
    (sym c.deref.ensures.value) (c.requires.last some d)

pub returns-then-is_in_last-clause-last : goal.returns-then-is_in_last-clause-last
returns-then-is_in_last-clause-last c = λ d.
    subst (IsLastBox c.args.computation.now.events (get_or c.args.spots.now c.args.k d)) c.deref.ensures.value
    (c.is_in_last.ensures c.if-is_in_last.true d)

pub returns-then-is_in_last-clause-more : goal.returns-then-is_in_last-clause-more
returns-then-is_in_last-clause-more c = same_boxes c.args.computation.now.events c.args.boxes.now.items

pub box_at-requires-clause-last : goal.box_at-requires-clause-last
box_at-requires-clause-last c = λ some d.
    subst (IsLastBox c.args.computation.now.events (get_or c.args.spots.now (c.args.k - 1) d))
    (sym c.deref-2.ensures.value) (c.requires.last some d)

pub returns-clause-last : goal.returns-clause-last
returns-clause-last c = λ d.
    last_box c.args.computation.now.events (get_or c.args.spots.now c.args.k d) c.args.boxes.now.items
    c.push.new.self.items c.in_ok-made.made (c.in_ok-made.ensures d) c.in_ok-push.ensures.items

pub returns-clause-more : goal.returns-clause-more
returns-clause-more c =
    one_box_more c.args.computation.now.events (get_or c.args.spots.now c.args.k no_spot) c.args.boxes.now.items
    c.push.new.self.items c.in_ok-made.made (c.in_ok-made.ensures no_spot) c.in_ok-push.ensures.items
