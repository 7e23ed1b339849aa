-- The streams are read, one of them is refused, or a file can't be read.
use Rattle.std.proofs.Common.{Bor, List, ℕ, map}
use Rattle.app_infer.proofs.Unwritten.{refused_left, unread_left}
use Rattle.app_infer.proofs.stream_files.infer_files.Goals as goal

pub returns-in-Ok-Some : goal.returns-in-Ok-Some
returns-in-Ok-Some g c =
    refused_left (g.Y.Files.FileSource.file_of c.args.world.now.files.now) (map (λ name. name.now) c.args.names.now)
    (g.O.Write.contents c.args.output.now) _ c.stream_refusal.result
    (rw c.in-Ok-Some.field-0-is at c.in-Ok-Some.ensures.refused)
    (rw c.name_at.ensures at c.stream_refusal.ensures.notice) c.stream_refusal.ensures.err

pub returns : goal.returns
returns g c =
    unread_left (g.Y.Files.FileSource.file_of c.args.world.now.files.now) (λ (name : Bor (List ℕ)). name.now)
    c.args.names.now (g.O.Write.contents c.args.output.now) c.in-Err.fault c.in-Err.ensures.err
    (λ opens read is. c.in-Err.ensures.sure opens read (cc))
