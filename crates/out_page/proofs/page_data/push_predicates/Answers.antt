-- The first one, and then each after its comma.
use Rattle.std.proofs.Common.{arith}
use Rattle.std.proofs.lemmas.List.{take_all}
use Rattle.out_page.specs.Written.{named_text}
use Rattle.pd_spec.specs.Named.{named_view}
use Rattle.out_page.proofs.Listed.{listed_seen}
use Rattle.out_page.proofs.page_data.push_predicates.Goals as goal

pub returns : goal.returns
returns c =
    let others = c.in-Some.others.now in
    listed_seen named_text named_view c.args.out.now.items c.push_named.new.out.items c.loop-named.out.items
    c.args.predicates.now others _ c.in-Some.first.now c.in-Some.ensures.cases.0 c.in_ok-push_named.ensures
    c.loop-named.invariant (take_all c.loop-named.named-index others (omega arith))
