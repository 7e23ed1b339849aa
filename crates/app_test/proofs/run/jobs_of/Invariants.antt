-- The files of the runs so far are open.
use Rattle.std.proofs.Common.{map, take}
use Rattle.std.specs.List.{AllZip}
use Rattle.std.specs.Prelude.{All}
use Rattle.judge_runs.specs.Views.{wishes_view}
use Rattle.pd_spec.specs.Views.{options_view}
use Rattle.app_test.specs.Jobs.{IsJobOf, IsReady}
use Rattle.app_test.proofs.run.jobs_of.Given as goal

abbrev pub invariant-loop-name : goal.invariant-loop-name
invariant-loop-name g l = record {
  jobs : AllZip (IsJobOf (λ stream. g.Y.Files.File.ByteSource.left stream.source)
      (g.Y.Files.FileSource.file_of l.world.files.now) (options_view l.options) (wishes_view l.wishes))
      (take l.name-index (map (λ name. name.now) l.names)) l.jobs.items;
  ready : All (IsReady (λ stream. g.Y.Files.File.ByteSource.has_ended stream.source)) l.jobs.items;
}
