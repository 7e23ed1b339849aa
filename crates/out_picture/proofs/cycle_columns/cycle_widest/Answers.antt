-- The greatest column is that of the last event of some process.
use Rattle.std.proofs.Common.{◌∙◌}
use Rattle.out_picture.specs.Tables.{places_view}
use Rattle.read_traces.specs.Views.{computation_view}
use Rattle.out_picture.proofs.CycleFacts.{widest_is}
use Rattle.out_picture.proofs.cycle_columns.cycle_widest.Goals as goal

pub returns : goal.returns
returns c =
    c.widest_column.ensures
    ∙ widest_is (computation_view c.args.traces.now) (places_view c.args.cycle.now) c.args.rows.now c.requires
