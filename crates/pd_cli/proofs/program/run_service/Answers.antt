-- What is left is said for the answers on which this run is to fail.
use Rattle.app_arguments.specs.ConditionViews.{fail_on_view}
use Rattle.app_serve.specs.ServiceFaults.{named_service_ending}
use Rattle.pd_cli.proofs.program.run_service.Goals as goal

pub returns : goal.returns
returns g c = record {
  start = g.E.Write.contents c.write_explanation.new.errors;
  explanation = c.write_explanation.ensures;
  reported = record {
    ending = named_service_ending (fail_on_view c.args.service.now.fail_on) c.serve-end.result;
    is_status = c.report_service_end.ensures.status;
    output = c.serve-end.ensures;
    errors = c.report_service_end.ensures.errors;
  };
}
