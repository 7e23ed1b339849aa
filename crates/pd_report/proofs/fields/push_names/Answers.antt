-- Appends names with a comma between each two.
use Rattle.std.proofs.Common.{length, ◌<◌, arith}
use Rattle.std.proofs.lemmas.List.{take_all}
use Rattle.std.proofs.lemmas.List.Elements.{All-rest}
use Rattle.pd_report.specs.Steps.{name_at, names_view}
use Rattle.pd_report.proofs.Joins.{words_end}
use Rattle.pd_report.proofs.fields.push_names.Goals as goal

pub returns : goal.returns
returns c =
    let others = c.in-Some.others.now in
    words_end (name_at (names_view c.args.names.now)) c.args.out.now.items c.push_name.new.out.items
    c.loop-step.out.items c.args.steps.now others _ c.in-Some.first.now c.in-Some.ensures.cases.0
    c.in_ok-push_name.ensures c.loop-step.invariant (take_all c.loop-step.step-index others (omega arith))

pub push_name-requires-in-loop-step : goal.push_name-requires-in-loop-step
push_name-requires-in-loop-step c =
    All-rest (λ step. step < length c.args.names.now) c.in-Some.first.now c.in-Some.others.now c.args.steps.now
    c.in-Some.ensures.cases.0 c.requires c.loop-step.step-index 0 c.loop-step-test.true
