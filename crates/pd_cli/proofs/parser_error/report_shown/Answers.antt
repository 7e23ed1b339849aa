-- A text that can't be shown is reported as a failed write.
use Rattle.app_arguments.specs.Statuses.{Failed, WriteFailure}
use Rattle.pd_cli.proofs.parser_error.report_shown.Goals as goal

pub returns-in-Err : goal.returns-in-Err
returns-in-Err g c = record {
  ending = Failed WriteFailure;
  is_status = c.report_fault.ensures.status;
  output = tt;
  errors = c.report_fault.ensures.line;
}
