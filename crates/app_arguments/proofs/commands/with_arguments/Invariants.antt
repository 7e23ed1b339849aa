-- The arguments before the next one are in the command's line.
use Rattle.std.proofs.Common.{◌≡◌, false, map, drop}
use Rattle.clap.specs.Simple.{app_of}
use Rattle.clap.specs.declared.builder.command.Command.TheViews.{out-Command}
use Rattle.app_arguments.specs.Table.{with_arguments}
use Rattle.app_arguments.specs.Views.{row_view}
use Rattle.app_arguments.proofs.commands.with_arguments.Given as goal

abbrev pub invariant-loop-row : goal.invariant-loop-row
invariant-loop-row l =
    (with_arguments (app_of l.command) (map row_view (drop l.row-index l.rows))
    ≡ with_arguments (app_of l.initial.command) (map row_view l.rows))
    × ((out-Command l.command).has_globals ≡ false)
