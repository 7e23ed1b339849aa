-- A source that isn't too long is all that it had left.
use Rattle.std.proofs.Common.{arith, ap}
use Rattle.std.proofs.lemmas.Result.{IfOk-weaker}
use Rattle.app_host.proofs.FilesRead.{if_all_left, if_more_left}
use Rattle.app_host.proofs.UnreadFiles.{same_fault}
use Rattle.judge_session.specs.declared.fault.EngineFault.TheVariants.{Read}
use Rattle.app_draw.proofs.WholeStreams.{not_more}
use Rattle.app_draw.proofs.whole_files.read_whole.Goals as goal

pub returns-clause-read : goal.returns-clause-read
returns-clause-read g c =
    IfOk-weaker c.within_limit.result _ _ (λ kept h. record {
      all = if_all_left (g.R.ByteSource.left c.args.source).bytes
          c.in_ok-bytes.bytes.items kept.items c.args.limit (ap (λ bytes. bytes.items) h.0) c.in_ok-bytes.ensures.prefix
          (omega (arith, c.in_ok-bytes.bytes.ok.0, h.1));
      ends = c.in_ok-bytes.ensures.end h.1;
    }) c.within_limit.ensures.ok

pub returns-clause-unread : goal.returns-clause-unread
returns-clause-unread g c is =
    let long = rw is at c.within_limit.ensures.long in
    not_more c.args.limit (g.R.ByteSource.left c.args.source)
    (if_more_left (g.R.ByteSource.left c.args.source).bytes c.in_ok-bytes.bytes.items c.args.limit
    c.in_ok-bytes.ensures.prefix (omega (arith, c.in_ok-bytes.bytes.ok.0, long)))

pub returns-in_err-bytes-clause-unread : goal.returns-in_err-bytes-clause-unread
returns-in_err-bytes-clause-unread g c reported = λ sure.
    (c.in_err-bytes.ensures.cause (same_fault c.from_residual.result c.in_err-bytes.field-0.0 Read
    c.from_residual.ensures.1 reported)).may sure.ends
