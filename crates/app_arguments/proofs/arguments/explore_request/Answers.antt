-- Without a judgement of files nothing is named.
use Rattle.app_arguments.specs.Views.{rows_in}
use Rattle.app_arguments.proofs.Requests.{explore_lacks, no_judgement}
use Rattle.app_arguments.proofs.arguments.explore_request.Goals as goal

pub returns-in_default : goal.returns-in_default
returns-in_default c =
    let rows = rows_in c.args.matches.now in
    explore_lacks rows (λ options fail_on page document streams names.
    no_judgement rows c.in_ok-judgement.field-0 c.in_ok-judgement.ensures c.in_default.is document streams options
    fail_on (names.0, names.1))
