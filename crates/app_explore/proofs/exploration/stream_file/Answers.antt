-- The file of this name, read again or not.
use Rattle.std.proofs.Common.{◌≡◌, List, ℕ, Option, subst, sym}
use Rattle.std.specs.Prelude.{IfSome}
use Rattle.std.proofs.lemmas.Result.{IfOk-weaker}
use Rattle.judge_explore.specs.FileViews.{file_view}
use Rattle.judge_explore.specs.Sources.{IsFileOf, stream_bytes, stream_file}
use Rattle.app_host.specs.FileSources.{bytes_in}
use Rattle.app_explore.proofs.FilesAgain.{file_read, file_unread}
use Rattle.app_explore.proofs.exploration.stream_file.Goals as goal

pub returns-in-Some : goal.returns-in-Some
returns-in-Some g c =
    let bytes_of : List ℕ → Option (List ℕ) = bytes_in (g.Y.Files.FileSource.file_of c.args.world.now.files.now) in
    let name = c.args.name.now in
    let known : IfSome (bytes_of name) (λ bytes. c.deref.result.now ≡ stream_bytes bytes) =
    subst (λ (given : List ℕ). IfSome (bytes_of name) (λ bytes. given ≡ stream_bytes bytes))
    (sym c.deref.ensures.value) (rw c.in-Some.is at c.in_ok-found.ensures) in
    IfOk-weaker c.read.result (λ file. file_view file ≡ stream_file name c.deref.result.now)
    (λ file. IsFileOf bytes_of name (file_view file))
    (λ file is. file_read bytes_of name c.deref.result.now (file_view file) known is) c.read.ensures

pub returns-in-None : goal.returns-in-None
returns-in-None g c =
    file_unread (bytes_in (g.Y.Files.FileSource.file_of c.args.world.now.files.now)) c.args.name.now _ c.unread.ensures
