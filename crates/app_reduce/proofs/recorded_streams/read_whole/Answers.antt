-- All bytes are read, or memory ran out.
use Rattle.std.proofs.Common.{arith, ap}
use Rattle.std.proofs.lemmas.Result.{IfOk-weaker}
use Rattle.app_reduce.proofs.StreamsRead.{all_left}
use Rattle.app_reduce.proofs.recorded_streams.read_whole.Goals as goal

pub returns-clause-read : goal.returns-clause-read
returns-clause-read g c =
    IfOk-weaker c.within_limit.result _ _ (λ kept h. record {
      all = all_left (g.R.ByteSource.left c.args.source).bytes
          c.in_ok-bytes.bytes.items kept.items 4611686018427387904 (ap (λ bytes. bytes.items) h.0)
          c.in_ok-bytes.ensures.prefix (omega (arith, c.in_ok-bytes.bytes.ok.0, h.1));
      ends = c.in_ok-bytes.ensures.end h.1;
    }) c.within_limit.ensures.ok
