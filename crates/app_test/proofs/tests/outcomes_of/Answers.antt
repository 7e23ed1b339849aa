-- What comes of the jobs comes of the runs.
use Rattle.std.proofs.Common.{◌∙◌, arith}
use Rattle.std.proofs.lemmas.List.{length-map}
use Rattle.app_arguments.specs.Views.{names_view}
use Rattle.judge_runs.specs.Views.{wishes_view}
use Rattle.pd_spec.specs.Views.{options_view}
use Rattle.app_test.proofs.JobResults.{found_all, found_runs, found_sound, results_of_jobs}
use Rattle.app_test.proofs.tests.outcomes_of.Goals as goal

pub returns-clause-all : goal.returns-clause-all
returns-clause-all g c =
    let options = options_view c.args.test.now.options in
    let wishes = wishes_view c.args.wishes.now in
    let jobs = c.in_ok-jobs.jobs.items in
    let trials = c.in_ok-trials.trials.items in
    found_all (λ stream. g.Y.Files.File.ByteSource.left stream.source)
    (g.Y.Files.FileSource.file_of c.args.world.now.files.now) options wishes (names_view c.args.names.now) jobs trials
    c.in_ok-final_outcomes.field-0.items c.args.orders.now c.final_outcomes.new.orders c.requires
    c.in_ok-jobs.ensures.jobs
    (results_of_jobs (λ stream. g.Y.Files.File.ByteSource.left stream.source) options wishes c.args.orders.now jobs
    trials (omega (arith, c.in_ok-trials.ensures.one_each, c.in_ok-trials.trials.ok.0, c.in_ok-jobs.jobs.ok.0))
    (λ i job one lt. c.in_ok-trials.ensures.found i job one (omega (arith, lt, c.in_ok-jobs.jobs.ok.0))))
    (c.in_ok-final_outcomes.ensures options)
    ∙ length-map c.args.names.now (λ name. name.now)

pub returns-clause-runs : goal.returns-clause-runs
returns-clause-runs g c =
    let options = options_view c.args.test.now.options in
    let wishes = wishes_view c.args.wishes.now in
    let jobs = c.in_ok-jobs.jobs.items in
    let trials = c.in_ok-trials.trials.items in
    found_runs (λ stream. g.Y.Files.File.ByteSource.left stream.source)
    (g.Y.Files.FileSource.file_of c.args.world.now.files.now) options wishes (names_view c.args.names.now) jobs trials
    c.in_ok-final_outcomes.field-0.items c.args.orders.now c.final_outcomes.new.orders c.requires
    c.in_ok-jobs.ensures.jobs
    (results_of_jobs (λ stream. g.Y.Files.File.ByteSource.left stream.source) options wishes c.args.orders.now jobs
    trials (omega (arith, c.in_ok-trials.ensures.one_each, c.in_ok-trials.trials.ok.0, c.in_ok-jobs.jobs.ok.0))
    (λ i job one lt. c.in_ok-trials.ensures.found i job one (omega (arith, lt, c.in_ok-jobs.jobs.ok.0))))
    (c.in_ok-final_outcomes.ensures options)

pub returns-clause-sound : goal.returns-clause-sound
returns-clause-sound g c =
    let options = options_view c.args.test.now.options in
    let wishes = wishes_view c.args.wishes.now in
    let jobs = c.in_ok-jobs.jobs.items in
    let trials = c.in_ok-trials.trials.items in
    found_sound (λ stream. g.Y.Files.File.ByteSource.left stream.source)
    (g.Y.Files.FileSource.file_of c.args.world.now.files.now) options wishes (names_view c.args.names.now) jobs trials
    c.in_ok-final_outcomes.field-0.items c.args.orders.now c.final_outcomes.new.orders c.requires
    c.in_ok-jobs.ensures.jobs
    (results_of_jobs (λ stream. g.Y.Files.File.ByteSource.left stream.source) options wishes c.args.orders.now jobs
    trials (omega (arith, c.in_ok-trials.ensures.one_each, c.in_ok-trials.trials.ok.0, c.in_ok-jobs.jobs.ok.0))
    (λ i job one lt. c.in_ok-trials.ensures.found i job one (omega (arith, lt, c.in_ok-jobs.jobs.ok.0))))
    (c.in_ok-final_outcomes.ensures options)
