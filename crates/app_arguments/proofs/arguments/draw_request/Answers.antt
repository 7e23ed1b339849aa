-- Without a picture that could be nothing is named.
use Rattle.out_picture.specs.Scopes.{scope_view}
use Rattle.app_arguments.specs.Arguments.{NamesScope}
use Rattle.app_arguments.specs.Views.{rows_in}
use Rattle.app_arguments.proofs.Numbers.{finds_none}
use Rattle.app_arguments.proofs.Requests.{draw_lacks}
use Rattle.app_arguments.proofs.arguments.draw_request.Goals as goal

pub returns-in_default : goal.returns-in_default
returns-in_default c =
    let rows = rows_in c.args.matches.now in
    draw_lacks rows (λ options scope document files names.
    finds_none (NamesScope rows) scope_view c.scope_of.result c.scope_of.ensures c.in_default.is scope names.2)
