-- What is left is said for the answers on which this run is to fail.
use Rattle.app_arguments.specs.ConditionViews.{fail_on_view}
use Rattle.app_host.specs.Faults.{named_ending}
use Rattle.pd_cli.proofs.program.run_files.Goals as goal

pub returns : goal.returns
returns g c = record {
  start = g.E.Write.contents c.write_explanation.new.errors;
  explanation = c.write_explanation.ensures;
  reported = record {
    ending = named_ending (fail_on_view c.args.judgement.now.fail_on) c.judge_files_in-end.result;
    is_status = c.report_judgement.ensures.status;
    output = c.judge_files_in-end.ensures;
    errors = c.report_judgement.ensures.errors;
  };
}
