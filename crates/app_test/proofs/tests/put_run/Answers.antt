-- What is left of a run is left of its result.
use Rattle.std.proofs.Common.{◌∷◌, [], subst, sym}
use Rattle.std.specs.Prelude.{OnErr, Result}
use Rattle.app_arguments.specs.Views.{format_view}
use Rattle.judge_runs.specs.Views.{wishes_view}
use Rattle.judge_runs.specs.declared.outcome.Outcome as outcomes
use Rattle.judge_session.specs.declared.fault.EngineFault.{EngineFault}
use Rattle.app_test.specs.Jobs.{runs_of}
use Rattle.app_test.specs.TestedRuns.{LeavesRuns}
use Rattle.app_test.proofs.tests.put_run.Goals as goal

pub returns-in-Ok-clause-left : goal.returns-in-Ok-clause-left
returns-in-Ok-clause-left g c =
    subst (λ (found : Result outcomes.Outcome EngineFault).
    OnErr c.put_known.result (LeavesRuns (format_view c.args.asked.now.format)
    (wishes_view c.args.asked.now.wishes.now) (runs_of (c.args.folder.now ∷ []) (found ∷ []))
    (g.O.Write.contents c.args.output.now) (g.O.Write.contents c.put_known.new.output)))
    (sym c.in-Ok.is) c.put_known.ensures.left
