-- All of the bytes are written, and nothing was missing before.
use Rattle.std.proofs.Common.{ℕ, List, length, subst, sym}
use Rattle.std.proofs.Math.Seq.{take-length}
use Rattle.std.specs.Io.KnownBytes.{Appends}
use Rattle.app_serve.proofs.kept_stream.KeptStream.keep.Goals as goal

pub returns-in-Ok-clause-kept : goal.returns-in-Ok-clause-kept
returns-in-Ok-clause-kept g c = record {
  part = (
    length c.args.bytes.now,
    subst (λ (bytes : List ℕ). Appends (g.W.Write.contents c.args.self.now.sink)
        (g.W.Write.contents c.try_write_all.new.writer) bytes) (sym (take-length c.args.bytes.now))
        c.in-Ok.ensures.written,
  );
  whole = λ is. (is, c.in-Ok.ensures.written);
  ended = λ was. let is = c.if-not-self.false in absurd (cc);
}
