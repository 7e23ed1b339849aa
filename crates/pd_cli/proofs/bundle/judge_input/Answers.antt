-- A flush changes nothing of what is written.
use Rattle.app_host.proofs.FlushedTexts.{judged_bundle_ends, unflushed_bundle_ends}
use Rattle.pd_cli.proofs.bundle.judge_input.Goals as goal

pub returns-then-is_err : goal.returns-then-is_err
returns-then-is_err g c =
    unflushed_bundle_ends (g.I.ByteSource.left c.args.input) c.in_ok-report.report
    (g.O.Write.contents c.args.output.now) (g.O.Write.contents c.write_bundle_report.new.writer)
    (g.O.Write.contents c.flush.new.self) c.in_ok-report.ensures.written c.flush.ensures.bytes

pub returns : goal.returns
returns g c =
    judged_bundle_ends (g.I.ByteSource.left c.args.input) c.in_ok-report.report
    (g.O.Write.contents c.args.output.now) (g.O.Write.contents c.write_bundle_report.new.writer)
    (g.O.Write.contents c.flush.new.self) c.in_ok-report.ensures.written c.flush.ensures.bytes
