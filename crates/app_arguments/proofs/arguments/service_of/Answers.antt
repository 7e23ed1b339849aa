-- Without a number of watchers or of workers there is no server.
use Rattle.std.proofs.Common.{◌≤◌, ℕ, codes}
use Rattle.app_arguments.specs.Arguments.{NamesNumber}
use Rattle.app_arguments.specs.Table.{watcher_limit}
use Rattle.app_arguments.specs.Views.{rows_in}
use Rattle.app_arguments.proofs.Numbers.{finds_none, no_threads}
use Rattle.app_arguments.proofs.arguments.service_of.Goals as goal

pub returns-in_default-watchers_of-clause-found : goal.returns-in_default-watchers_of-clause-found
returns-in_default-watchers_of-clause-found c document place port_file watchers wait keep names some =
    let rows = rows_in c.args.matches.now in
    finds_none (λ (n : ℕ). NamesNumber rows (codes "WATCHERS") n × (n ≤ watcher_limit)) (λ (n : ℕ). n)
    c.watchers_of.result c.watchers_of.ensures c.in_default-watchers_of.is watchers
    (names.names_watchers, names.few_watchers)

pub returns-in_default-workers_of-clause-found : goal.returns-in_default-workers_of-clause-found
returns-in_default-workers_of-clause-found c document place port_file watchers wait keep names some =
    no_threads (rows_in c.args.matches.now) (codes "WORKERS") c.workers_of.result c.workers_of.ensures
    c.in_default-workers_of.is some

pub returns-in_default-admission_of-clause-found : goal.returns-in_default-admission_of-clause-found
returns-in_default-admission_of-clause-found c document place port_file watchers wait keep names some =
    c.admission_of.ensures.unnamed c.in_default-admission_of.is names.names_token
