-- What the loop of `push_messages` keeps.
use Rattle.std.proofs.Common.{◌≡◌, ◌++◌, take}
use Rattle.pd_match.specs.Views.{pairs_view}
use Rattle.out_picture.specs.Pictures.{messages_shapes}
use Rattle.out_picture.specs.Shapes.{all_seen}
use Rattle.out_picture.specs.Tables.{column_at}
use Rattle.out_picture.proofs.messages.push_messages.Given as goal

abbrev pub invariant-loop-message : goal.invariant-loop-message
invariant-loop-message l = all_seen l.shapes.items ≡ all_seen l.initial.shapes.items
    ++ messages_shapes l.window (column_at l.rows) (pairs_view (take l.message-index l.messages))
