-- What a file has left once it is open is all that it holds.
use Rattle.std.proofs.Common.{◌≡◌, List, ℕ, None, Some, Option}
use Rattle.std.specs.Global.{Global}
use Rattle.std.specs.Prelude.{IfSome, Vec}
use Rattle.std.proofs.lemmas.Result.{IfOk-weaker}
use Rattle.judge_explore.specs.Sources.{stream_bytes}
use Rattle.def_judgement.specs.Writes.{Source}
use Rattle.app_host.specs.FileSources.{Knows}
use Rattle.app_host.proofs.FilesRead.{of_known_bytes}
use Rattle.app_explore.proofs.exploration.read_again.Goals as goal

found_again : (found : Option (Vec ℕ Global)) (file left : Source) → Knows file left
    → IfSome found (λ bytes. IfSome left.bytes (λ all. bytes.items ≡ stream_bytes all))
    → IfSome found (λ bytes. IfSome file.bytes (λ all. bytes.items ≡ stream_bytes all))
found_again None file left knows all = tt
found_again (Some bytes) file left knows all =
    of_known_bytes file left (λ (held : List ℕ). bytes.items ≡ stream_bytes held) knows all

pub returns-in-Ok : goal.returns-in-Ok
returns-in-Ok g c =
    let file = (g.Y.Files.FileSource.file_of c.args.world.now.files.now c.args.name.now).source in
    let left = g.Y.Files.File.ByteSource.left c.in-Ok.file in
    IfOk-weaker c.stream_left.result _ _ (λ found all. found_again found file left c.in-Ok.ensures.file all)
    c.stream_left.ensures
