-- None of the names so far is missing.
use Rattle.std.proofs.Common.{◌≡◌, take, false, not}
use Rattle.std.specs.List.{list_any}
use Rattle.app_explain.specs.Peers.{is_sent, process_names}
use Rattle.app_explain.proofs.peers.is_missing.Given as goal

abbrev pub invariant-loop-process : goal.invariant-loop-process
invariant-loop-process l =
    list_any (λ name. not (is_sent l.senders name)) (take l.process (process_names l.names)) ≡ false
