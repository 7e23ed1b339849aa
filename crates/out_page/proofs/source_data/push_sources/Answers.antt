-- The first one, and then each after its comma.
use Rattle.std.proofs.Common.{arith}
use Rattle.std.proofs.lemmas.List.{take_all}
use Rattle.out_page.specs.SourceData.{source_text}
use Rattle.out_page.specs.Views.{source_view}
use Rattle.out_page.proofs.Listed.{listed_seen}
use Rattle.out_page.proofs.source_data.push_sources.Goals as goal

pub returns : goal.returns
returns c =
    let others = c.in-Some.others.now in
    listed_seen source_text source_view c.args.out.now.items c.push_source.new.out.items c.loop-source.out.items
    c.args.sources.now others _ c.in-Some.first.now c.in-Some.ensures.cases.0 c.in_ok-push_source.ensures
    c.loop-source.invariant (take_all c.loop-source.source-index others (omega arith))
