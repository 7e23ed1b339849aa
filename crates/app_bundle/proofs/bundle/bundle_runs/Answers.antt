-- Each run is bundled after those before it.
use Rattle.std.proofs.Common.{◌≡◌, ◌&&◌, ℕ, List, ap, map, subst, sym, take, ◌∙◌}
use Rattle.app_bundle.specs.RunLines.{run_view}
use Rattle.app_bundle.proofs.WrittenRuns.{AreBundled, bundled_on, cut_by, cut_line, none_bundled, take_next}
use Rattle.app_bundle.proofs.bundle.bundle_runs.Goals as goal
use Rattle.app_bundle.proofs.bundle.bundle_runs.Goals.{else-all, then-all}

pub loop-folder-init : goal.loop-folder-init
loop-folder-init g c =
    none_bundled (g.Y.Files.FileSource.file_of c.args.world.now.files.now) (g.O.Write.contents c.args.output.now)

pub loop-folder-preserved : goal.loop-folder-preserved
loop-folder-preserved g c =
    let files = g.Y.Files.FileSource.file_of c.args.world.now.files.now in
    let old = g.O.Write.contents c.args.output.now in
    let middle = g.O.Write.contents c.loop-folder.output in
    let new = g.O.Write.contents c.write_flushed.new.output in
    let folders = map (λ name. name.now) c.args.runs.now in
    let run = run_view c.in_ok-run.run' in
    let all : c.if-all.all ≡ c.loop-folder.all && run.is_session =
    elim c.if-all.branch [
      | then-all w ↦ w.all-is ∙ sym (ap (λ b. b && run.is_session) w.if-all.true)
      | else-all w ↦ w.all-is ∙ (w.if-all.false ∙ sym (ap (λ b. b && run.is_session) w.if-all.false))
    ] in
    subst (λ (some : List (List ℕ)). AreBundled files some c.if-all.all old new)
    (sym (take_next (λ name. name.now) c.args.runs.now c.loop-folder.folder-index _ c.loop-folder-test.true))
    (bundled_on files (take c.loop-folder.folder-index folders) c.loop-folder.all old middle new c.loop-folder.invariant
    _ run c.if-all.all c.in_ok-run.ensures.line all
    (rw c.deref.ensures.value at c.in_ok-write_flushed.ensures.written))

pub returns-in_err-write_flushed : goal.returns-in_err-write_flushed
returns-in_err-write_flushed g c =
    let files = g.Y.Files.FileSource.file_of c.args.world.now.files.now in
    let old = g.O.Write.contents c.args.output.now in
    let middle = g.O.Write.contents c.loop-folder.output in
    let new = g.O.Write.contents c.write_flushed.new.output in
    let folders = map (λ name. name.now) c.args.runs.now in
    let run = run_view c.in_ok-run.run' in
    let part = rw c.deref.ensures.value at c.in_err-write_flushed.ensures.part in
    cut_by files folders old new c.from_residual-in_err-write_flushed.result c.in_err-write_flushed.field-0.0
    c.from_residual-in_err-write_flushed.ensures.1 c.in_err-write_flushed.ensures.err c.loop-folder.folder-index
    _ (take_next (λ name. name.now) c.args.runs.now c.loop-folder.folder-index _ c.loop-folder-test.true)
    (cut_line files (take c.loop-folder.folder-index folders) c.loop-folder.all old middle new c.loop-folder.invariant _
    run part.0 c.in_ok-run.ensures.line part.2)
