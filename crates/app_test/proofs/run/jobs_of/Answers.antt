-- The files of one more run are open after each turn.
use Rattle.std.proofs.Common.{List, [], ◌∷◌, ◌++◌, ℕ, subst, sym}
use Rattle.std.proofs.lemmas.List.Elements.{All-push}
use Rattle.std.specs.List.{AllZip}
use Rattle.app_host.proofs.FilesRead.{zip_on}
use Rattle.judge_runs.specs.Views.{wishes_view}
use Rattle.pd_spec.specs.Views.{options_view}
use Rattle.app_test.specs.Jobs.{IsJobOf, IsReady}
use Rattle.app_test.proofs.JobResults.{take_next}
use Rattle.app_test.proofs.run.jobs_of.Goals as goal

pub loop-name-preserved : goal.loop-name-preserved
loop-name-preserved g c =
    let IsJob = IsJobOf (λ stream. g.Y.Files.File.ByteSource.left stream.source)
    (g.Y.Files.FileSource.file_of c.args.world.now.files.now) (options_view c.args.options.now)
    (wishes_view c.args.wishes.now) in
    rw c.in_ok-push.ensures.items (record {
      jobs = subst (λ (some : List (List ℕ)). AllZip IsJob some
          (c.loop-name.jobs.items ++ c.in_ok-job_of.field-0 ∷ []))
          (sym (take_next (λ name. name.now) c.args.names.now c.loop-name.name-index _ c.loop-name-test.true))
          (zip_on IsJob _ _ _ _ c.loop-name.invariant.jobs c.in_ok-job_of.ensures.job);
      ready = All-push (IsReady (λ stream. g.Y.Files.File.ByteSource.has_ended stream.source))
          c.loop-name.jobs.items c.in_ok-job_of.field-0 c.loop-name.invariant.ready
          c.in_ok-job_of.ensures.ready;
    })
