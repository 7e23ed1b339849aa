-- The first one, and then each after its comma.
use Rattle.std.proofs.Common.{arith}
use Rattle.std.proofs.lemmas.List.{take_all}
use Rattle.std.specs.Prelude.{decimal}
use Rattle.out_page.proofs.Listed.{listed_end}
use Rattle.out_page.proofs.answer_data.push_counts.Goals as goal

pub returns : goal.returns
returns c =
    let others = c.in-Some.others.now in
    listed_end decimal c.args.out.now.items c.push_number.new.out.items c.loop-count.out.items
    c.args.counts.now others _ c.in-Some.first.now c.in-Some.ensures.cases.0 c.in_ok-push_number.ensures.ok
    c.loop-count.invariant (take_all c.loop-count.count-index others (omega arith))
