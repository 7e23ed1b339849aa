-- The line is written whole, or the output fails: on the way, or once the line is written.
use Rattle.std.proofs.Common.{◌∙◌, inr}
use Rattle.app_arguments.specs.Statuses.{Failed, IsVersionLine, WriteFailure}
use Rattle.app_host.proofs.FlushedTexts.{flushed_up_to}
use Rattle.pd_cli.proofs.parser_error.report_version.Goals as goal

pub returns-then-is_err : goal.returns-then-is_err
returns-then-is_err g c = record {
  ending = Failed WriteFailure;
  is_status = c.report_fault.ensures.status;
  output = flushed_up_to IsVersionLine IsVersionLine (g.O.Write.contents c.args.output.now)
      (g.O.Write.contents c.write_all_counted.new.writer) (g.O.Write.contents c.flush.new.self) (λ text is. is)
      (c.as_bytes.result.now, c.as_bytes.ensures.value ∙ c.version_line.ensures, c.in-Ok.ensures.written)
      c.flush.ensures.bytes;
  errors = c.report_fault.ensures.line;
}

pub returns-in-Err : goal.returns-in-Err
returns-in-Err g c = record {
  ending = Failed WriteFailure;
  is_status = c.report_fault-in-Err.ensures.status;
  output = inr (
    c.as_bytes.result.now,
    c.as_bytes.ensures.value ∙ c.version_line.ensures,
    c.in-Err.field-0,
    c.in-Err.ensures.part.0,
    c.in-Err.ensures.part.1,
  );
  errors = c.report_fault-in-Err.ensures.line;
}
