-- Without a server nothing is named.
use Rattle.app_arguments.specs.Views.{rows_in}
use Rattle.app_arguments.proofs.Requests.{no_service, serve_lacks}
use Rattle.app_arguments.proofs.arguments.serve_request.Goals as goal

pub returns-in_default-service_of : goal.returns-in_default-service_of
returns-in_default-service_of c =
    let rows = rows_in c.args.matches.now in
    serve_lacks rows (λ options fail_on format document place port_file watchers wait keep names.
    no_service rows c.service_of.result c.service_of.ensures.found c.in_default-service_of.is document place port_file
    watchers wait keep names.0 names.1.2)
