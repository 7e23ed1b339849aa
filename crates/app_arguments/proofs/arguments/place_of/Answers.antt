-- Without a port and without a path there is no place.
use Rattle.std.proofs.Common.{◌≡◌, ◌∙◌, None, ap, codes, sym}
use Rattle.clap.specs.Walk.{first_of}
use Rattle.app_arguments.specs.Views.{rows_in, text_view}
use Rattle.app_arguments.proofs.Numbers.{no_place}
use Rattle.app_arguments.proofs.arguments.place_of.Goals as goal

pub returns-in_default-number_of : goal.returns-in_default-number_of
returns-in_default-number_of c =
    let rows = rows_in c.args.matches.now in
    let no_path : first_of (codes "PATH") rows ≡ None =
    sym c.text_of.ensures ∙ ap text_view c.in_default.is in
    no_place rows (first_of (codes "ADDRESS") rows) (first_of (codes "PATH") rows) (first_of (codes "PORT_FILE") rows)
    c.number_of.result c.number_of.ensures c.in_default-number_of.is no_path
