-- What the run comes to by itself says whether it fails.
use Rattle.judge_runs.specs.Runs as runs
use Rattle.judge_runs.specs.Views.{wishes_view}
use Rattle.std.proofs.Common.{[], ◌∷◌}
use Rattle.app_test.specs.Jobs.{run_of}
use Rattle.app_test.proofs.RunLines.{fails_alone}
use Rattle.app_test.proofs.tests.is_failing.Goals as goal

pub returns-in-AllPass : goal.returns-in-AllPass
returns-in-AllPass c =
    let wishes = wishes_view c.args.wishes.now in
    let run = run_of c.args.folder.now c.args.outcome.now in
    fails_alone wishes run runs.AllPass
    (c.in-AllPass.ensures wishes (run ∷ []) (c.in_ok-add.ensures.tally [] (c.new-one.ensures wishes)))

pub returns-in-SomeFails : goal.returns-in-SomeFails
returns-in-SomeFails c =
    let wishes = wishes_view c.args.wishes.now in
    let run = run_of c.args.folder.now c.args.outcome.now in
    fails_alone wishes run runs.SomeFails
    (c.in-SomeFails.ensures wishes (run ∷ []) (c.in_ok-add.ensures.tally [] (c.new-one.ensures wishes)))

pub returns : goal.returns
returns c =
    let wishes = wishes_view c.args.wishes.now in
    let run = run_of c.args.folder.now c.args.outcome.now in
    fails_alone wishes run runs.SomeNotJudged
    (c.in-SomeNotJudged.ensures wishes (run ∷ []) (c.in_ok-add.ensures.tally [] (c.new-one.ensures wishes)))
