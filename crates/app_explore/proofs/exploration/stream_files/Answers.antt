-- One more file after each turn.
use Rattle.std.proofs.Common.{List, ℕ, map, subst, Bor}
use Rattle.std.proofs.lemmas.List.{take_all}
use Rattle.judge_explore.specs.FileViews.{file_view, files_view}
use Rattle.judge_explore.specs.Sources.{AreFilesOf}
use Rattle.app_host.specs.FileSources.{bytes_in}
use Rattle.app_explore.proofs.FilesAgain.{file_on}
use Rattle.app_explore.proofs.exploration.stream_files.Goals as goal

pub loop-name-init : goal.loop-name-init
loop-name-init g c = rw c.new-found.ensures.items tt

pub loop-name-preserved : goal.loop-name-preserved
loop-name-preserved g c =
    rw c.in_ok-push.ensures.items (file_on (bytes_in (g.Y.Files.FileSource.file_of c.args.world.now.files.now))
    (λ (name : Bor (List ℕ)). name.now) file_view c.args.names.now c.loop-name.found.items c.loop-name.name-index _
    c.in_ok-stream_file.field-0 c.loop-name-test.true c.loop-name.invariant c.in_ok-stream_file.ensures)

pub returns : goal.returns
returns g c =
    let all = take_all c.loop-name.name-index c.args.names.now c.loop-name-test.false in
    subst (λ (names : List (Bor (List ℕ))). AreFilesOf (bytes_in (g.Y.Files.FileSource.file_of
    c.args.world.now.files.now))
    (map (λ (name : Bor (List ℕ)). name.now) names) (files_view c.loop-name.found.items)) all c.loop-name.invariant
