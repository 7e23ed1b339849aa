-- The first one, and then each after its comma.
use Rattle.std.proofs.Common.{arith, map}
use Rattle.std.proofs.lemmas.List.{take_all}
use Rattle.out_page.specs.ExtraData.{wish_text}
use Rattle.out_page.specs.Views.{wish_view}
use Rattle.pd_spec.specs.Named.{named_view}
use Rattle.out_page.proofs.Listed.{listed_seen}
use Rattle.out_page.proofs.extra_data.push_wishes.Goals as goal

pub returns : goal.returns
returns c =
    let others = c.in-Some.others.now in
    listed_seen (wish_text (map named_view c.args.predicates.now)) wish_view c.args.out.now.items
    c.push_wish.new.out.items c.loop-wish.out.items
    c.args.wishes.now others _ c.in-Some.first.now c.in-Some.ensures.cases.0 c.in_ok-push_wish.ensures
    c.loop-wish.invariant (take_all c.loop-wish.wish-index others (omega arith))
