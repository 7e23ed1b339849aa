-- Appends numbers with a comma between each two.
use Rattle.std.proofs.Common.{arith}
use Rattle.std.specs.Prelude.{decimal}
use Rattle.std.proofs.lemmas.List.{take_all}
use Rattle.pd_report.proofs.Joins.{words_end}
use Rattle.pd_report.proofs.fields.push_numbers.Goals as goal

pub returns : goal.returns
returns c =
    let others = c.in-Some.others.now in
    words_end decimal c.args.out.now.items c.push_number.new.out.items c.loop-number.out.items c.args.numbers.now others
    _ c.in-Some.first.now c.in-Some.ensures.cases.0 c.in_ok-push_number.ensures.ok c.loop-number.invariant
    (take_all c.loop-number.number-index others (omega arith))
