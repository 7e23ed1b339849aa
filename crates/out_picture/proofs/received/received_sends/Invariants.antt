-- What the loop of `received_sends` keeps.
use Rattle.std.proofs.Common.{take}
use Rattle.read_traces.specs.Views.{computation_view}
use Rattle.out_picture.specs.Received.{AreReceived}
use Rattle.out_picture.proofs.received.received_sends.Given as goal

abbrev pub invariant-loop-message : goal.invariant-loop-message
invariant-loop-message l =
    AreReceived (computation_view l.traces) (take l.message-index l.messages) l.rows.items
