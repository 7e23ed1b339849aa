-- What the loop of `push_marked_messages` keeps.
use Rattle.std.proofs.Common.{◌≡◌, ◌++◌, take}
use Rattle.pd_match.specs.Views.{pairs_view}
use Rattle.out_picture.specs.Cycles.{marked_messages}
use Rattle.out_picture.specs.Shapes.{all_seen}
use Rattle.out_picture.specs.Tables.{column_at, places_view}
use Rattle.out_picture.proofs.cycle_marks.push_marked_messages.Given as goal

abbrev pub invariant-loop-message : goal.invariant-loop-message
invariant-loop-message l = all_seen l.shapes.items ≡ all_seen l.initial.shapes.items
    ++ marked_messages l.window (column_at l.rows) (places_view l.cycle) (pairs_view (take l.message-index l.messages))
