-- The first one, and then each after its comma.
use Rattle.std.proofs.Common.{length, ◌<◌, arith}
use Rattle.std.proofs.lemmas.List.{take_all}
use Rattle.std.proofs.lemmas.List.Elements.{All-rest}
use Rattle.out_page.specs.AnswerData.{process_number}
use Rattle.pd_report.specs.Steps.{name_at, names_view}
use Rattle.out_page.proofs.Listed.{comma_more, listed_seen}
use Rattle.out_page.proofs.answer_data.push_steps.Goals as goal

pub returns : goal.returns
returns c =
    let others = c.in-Some.others.now in
    listed_seen (process_number c.args.names.now) (name_at (names_view c.args.texts.now))
    c.args.out.now.items c.push_step.new.out.items c.loop-step.out.items
    c.args.steps.now others _ c.in-Some.first.now c.in-Some.ensures.cases.0 c.in_ok-push_step.ensures
    c.loop-step.invariant (take_all c.loop-step.step-index others (omega arith))

pub push_step-requires-in-loop-step : goal.push_step-requires-in-loop-step
push_step-requires-in-loop-step c =
    All-rest (λ step. step < length c.args.texts.now) c.in-Some.first.now c.in-Some.others.now c.args.steps.now
    c.in-Some.ensures.cases.0 c.requires c.loop-step.step-index 0 c.loop-step-test.true

pub loop-step-preserved : goal.loop-step-preserved
loop-step-preserved c =
    comma_more (λ step. process_number c.args.names.now (name_at (names_view c.args.texts.now) step))
    c.push_step.new.out.items c.loop-step.out.items c.push_bytes.new.out.items
    c.push_step-in-loop-step.new.out.items c.in-Some.others.now c.loop-step.step-index 0 c.loop-step-test.true
    c.loop-step.invariant c.in_ok-push_bytes.ensures.ok c.in_ok-push_step-2.ensures
