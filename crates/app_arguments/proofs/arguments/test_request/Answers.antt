-- Without a number of workers, or of runs side by side, nothing is named.
use Rattle.std.proofs.Common.{ap, codes, option_map, refl, sym, ◌∙◌}
use Rattle.app_arguments.specs.Views.{names_view, rows_in}
use Rattle.app_arguments.specs.Wishes.{or_none_ever}
use Rattle.app_arguments.proofs.Numbers.{no_threads}
use Rattle.app_arguments.proofs.Requests.{test_lacks}
use Rattle.app_arguments.proofs.arguments.test_request.Goals as goal

pub returns-in_default-workers_of : goal.returns-in_default-workers_of
returns-in_default-workers_of c =
    let rows = rows_in c.args.matches.now in
    test_lacks rows (λ options wishes format runs names.
    no_threads rows (codes "WORKERS") c.workers_of.result c.workers_of.ensures c.in_default-workers_of.is
    names.some_workers)

pub returns-in_default-jobs_of : goal.returns-in_default-jobs_of
returns-in_default-jobs_of c =
    let rows = rows_in c.args.matches.now in
    test_lacks rows (λ options wishes format runs names.
    no_threads rows (codes "JOBS") c.jobs_of.result c.jobs_of.ensures c.in_default-jobs_of.is names.some_jobs)

pub returns : goal.returns
returns c =
    let workers = c.in-Some-workers_of.ensures in
    let jobs = c.in-Some-jobs_of.ensures in (
      refl,
      record {
        names_runs = sym c.in_ok-runs.ensures ∙ ap (option_map (λ names. names_view names.items)) c.in-Some.is;
        names_options = c.in_ok-options.ensures.options;
        any_width = c.in_ok-options.ensures.beyond;
        some_workers = (c.in-Some-workers_of.workers.number, workers.0, workers.1.0, workers.1.1);
        some_jobs = (c.in-Some-jobs_of.jobs.number, jobs.0, jobs.1.0, jobs.1.1);
        are_wishes = c.in_ok-wishes.ensures ∙ ap or_none_ever c.in_ok-wished_of.ensures;
        names_format = c.in-Some-format_of.ensures;
      },
    )
