-- The first one, and then each after its comma.
use Rattle.std.proofs.Common.{arith}
use Rattle.std.proofs.lemmas.List.{take_all}
use Rattle.out_page.specs.AnswerData.{named_place_text}
use Rattle.pd_report.specs.Views.{named_place_view}
use Rattle.out_page.proofs.Listed.{listed_seen}
use Rattle.out_page.proofs.answer_data.push_named_places.Goals as goal

pub returns : goal.returns
returns c =
    let others = c.in-Some.others.now in
    listed_seen (named_place_text c.args.names.now) named_place_view
    c.args.out.now.items c.push_named_place.new.out.items c.loop-place.out.items
    c.args.places.now others _ c.in-Some.first.now c.in-Some.ensures.cases.0 c.in_ok-push_named_place.ensures
    c.loop-place.invariant (take_all c.loop-place.place-index others (omega arith))
