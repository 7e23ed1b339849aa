-- The first one, and then each after its comma.
use Rattle.std.proofs.Common.{arith}
use Rattle.std.proofs.lemmas.List.{take_all}
use Rattle.std.specs.Prelude.{string_bytes}
use Rattle.out_page.specs.JsonTexts.{quoted}
use Rattle.out_page.proofs.Listed.{listed_seen}
use Rattle.out_page.proofs.json_texts.push_names.Goals as goal

pub returns : goal.returns
returns c =
    let others = c.in-Some.others.now in
    listed_seen quoted string_bytes c.args.out.now.items c.push_name.new.out.items c.loop-name.out.items
    c.args.names.now others _ c.in-Some.first.now c.in-Some.ensures.cases.0 c.in_ok-push_name.ensures
    c.loop-name.invariant (take_all c.loop-name.name-index others (omega arith))
