-- The document of streams that were read is written, or they have none together.
use Rattle.std.proofs.Common.{map}
use Rattle.judge_infer.specs.Views.{document_fault_view}
use Rattle.app_infer.proofs.Unwritten.{none_left}
use Rattle.app_infer.proofs.stream_files.write_session.Goals as goal

pub returns-in-Err : goal.returns-in-Err
returns-in-Err g c =
    none_left (g.Y.Files.FileSource.file_of c.args.world.now.files.now) (map (λ name. name.now) c.args.names.now)
    (g.O.Write.contents c.args.output.now) c.args.session.now (document_fault_view c.in-Err.fault)
    c.document_refusal.result c.requires c.in-Err.ensures c.document_refusal.ensures.notice
    c.document_refusal.ensures.err
