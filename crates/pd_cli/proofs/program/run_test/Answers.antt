-- What the test leaves is left.
use Rattle.app_test.specs.Tests.{test_ending}
use Rattle.pd_cli.proofs.program.run_test.Goals as goal

pub returns : goal.returns
returns g c = record {
  start = g.E.Write.contents c.write_explanation.new.errors;
  explanation = c.write_explanation.ensures;
  reported = record {
    ending = test_ending c.test_files-end.result;
    is_status = c.report_test.ensures.status;
    output = c.test_files-end.ensures;
    errors = c.report_test.ensures.errors;
  };
}
