-- How much is asked for is what the number and the flag say.
use Rattle.std.proofs.Common.{Option, subst, sym}
use Rattle.out_picture.specs.declared.extent.Extent.{Extent}
use Rattle.app_arguments.specs.Arguments.{NamesExtent}
use Rattle.app_arguments.specs.Views.{Finds, rows_in}
use Rattle.app_arguments.proofs.Scopes.{extent_found}
use Rattle.app_arguments.proofs.arguments.extent_of.Goals as goal

pub returns : goal.returns
returns c =
    let rows = rows_in c.args.matches.now in
    subst (λ (found : Option Extent). Finds (NamesExtent rows) (λ (extent : Extent). extent) found)
    (sym c.extent_by.ensures) (extent_found rows c.number_of.result c.flag_of.result c.number_of.ensures
    c.flag_of.ensures)
