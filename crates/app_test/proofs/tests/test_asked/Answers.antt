-- What comes of the runs is written.
use Rattle.std.proofs.Common.{List, ap, arith, length, subst, sym, take}
use Rattle.std.proofs.lemmas.List.{length-map}
use Rattle.std.specs.List.{AllZip}
use Rattle.std.specs.Prelude.{Result}
use Rattle.app_arguments.specs.Views.{format_view, names_view}
use Rattle.judge_runs.specs.Views.{wishes_view}
use Rattle.judge_runs.specs.declared.outcome.Outcome as outcomes
use Rattle.judge_session.specs.declared.fault.EngineFault.{EngineFault}
use Rattle.pd_spec.specs.Views.{options_view}
use Rattle.app_test.specs.Jobs.{runs_of}
use Rattle.app_test.specs.Tests.{IsRunIn}
use Rattle.app_test.proofs.JobResults.{leaves_more, nothing_more, tests_more}
use Rattle.app_test.proofs.RunLines.{on_err}
use Rattle.app_test.proofs.tests.test_asked.Goals as goal

pub returns-in_err-found-clause-left : goal.returns-in_err-found-clause-left
returns-in_err-found-clause-left g c =
    on_err c.from_residual.result
    (nothing_more (g.Y.Files.FileSource.file_of c.args.world.now.files.now) (options_view c.args.test.now.options)
    (wishes_view c.args.asked.now.wishes.now) (format_view c.args.asked.now.format) (names_view c.args.folders.now)
    (g.O.Write.contents c.args.output.now))

pub put_runs-requires : goal.put_runs-requires
put_runs-requires g c = omega (arith, ap length c.deref.ensures.value, c.in_ok-found.ensures.all)

pub returns-clause-tested : goal.returns-clause-tested
returns-clause-tested g c =
    let files = g.Y.Files.FileSource.file_of c.args.world.now.files.now in
    let options = options_view c.args.test.now.options in
    let wishes = wishes_view c.args.asked.now.wishes.now in
    let folders = names_view c.args.folders.now in
    tests_more files options wishes (format_view c.args.asked.now.format) folders c.deref.result.now
    (g.O.Write.contents c.args.output.now)
    (g.O.Write.contents c.put_runs.new.output)
    (subst (λ (rs : List (Result outcomes.Outcome EngineFault)).
    AllZip (IsRunIn files options wishes) (take (length (runs_of folders rs)) folders) (runs_of folders rs))
    (sym c.deref.ensures.value) c.in_ok-found.ensures.runs)
    c.put_runs.result c.args.asked.now.lists_failing c.args.tested.now.records c.put_runs.new.records
    (λ failing. names_view failing.items)
    (length c.args.folders.now) (sym (length-map c.args.folders.now (λ name. name.now))) c.put_runs.ensures.whole
    c.put_runs.ensures.written

pub returns-clause-left : goal.returns-clause-left
returns-clause-left g c =
    let files = g.Y.Files.FileSource.file_of c.args.world.now.files.now in
    let options = options_view c.args.test.now.options in
    let wishes = wishes_view c.args.asked.now.wishes.now in
    let folders = names_view c.args.folders.now in
    leaves_more files options wishes (format_view c.args.asked.now.format) folders c.deref.result.now
    (g.O.Write.contents c.args.output.now)
    (g.O.Write.contents c.put_runs.new.output)
    (subst (λ (rs : List (Result outcomes.Outcome EngineFault)).
    AllZip (IsRunIn files options wishes) (take (length (runs_of folders rs)) folders) (runs_of folders rs))
    (sym c.deref.ensures.value) c.in_ok-found.ensures.runs)
    c.put_runs.result c.put_runs.ensures.left
