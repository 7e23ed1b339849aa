-- One more event.
use Rattle.std.proofs.Common.{length, ◌<◌, map, arith}
use Rattle.std.proofs.lemmas.List.Elements.{All-rest}
use Rattle.pd_report.specs.Steps.{names_at, names_view}
use Rattle.serde_json.specs.View.{view}
use Rattle.out_json.specs.JsonReports.{run_data, runs}
use Rattle.out_json.proofs.NextEvents.{next_event}
use Rattle.out_json.proofs.runs.runs_at.Goals as goal

pub name_of-requires-in-loop-step : goal.name_of-requires-in-loop-step
name_of-requires-in-loop-step c =
    All-rest (λ step. step < length c.args.names.now) c.in-Some.first.now c.in-Some.others.now c.args.steps.now
    c.in-Some.ensures.cases.0 c.requires c.loop-step.step-index 0 c.loop-step-test.true

pub loop-step-preserved : goal.loop-step-preserved
loop-step-preserved c = record {
  small = omega (arith, c.in_ok-count.ensures.small, c.loop-step.invariant.small);
  there =
      All-rest (λ step. step < length c.args.names.now) c.in-Some.first.now c.in-Some.others.now c.args.steps.now
      c.in-Some.ensures.cases.0 c.requires c.loop-step.step-index 0 c.loop-step-test.true;
  whole =
      next_event (names_view c.args.names.now) (map view c.loop-step.runs.items) (map view c.push_event.new.runs.items)
      (map run_data (runs (names_at (names_view c.args.names.now) c.args.steps.now))) c.name_of.result.now
      c.name_of-in-loop-step.result.now c.loop-step.count c.in_ok-count.count c.in-Some.others.now c.loop-step.last
      c.loop-step.step-index c.loop-step-test.true c.name_of.ensures c.name_of-in-loop-step.ensures
      c.in_ok-count.ensures.runs c.loop-step.invariant.whole;
}
