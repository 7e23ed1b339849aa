-- The missing names so far were said, and what stands before the next one is known.
use Rattle.std.proofs.Common.{◌≡◌, take}
use Rattle.app_text.specs.Texts.{Says}
use Rattle.app_explain.specs.Peers.{before_next, missing, missing_names, process_names}
use Rattle.app_explain.proofs.peers.say_missing.Given as goal

abbrev pub invariant-loop-process : goal.invariant-loop-process
invariant-loop-process l = record {
  said : l.said ≡ before_next (missing l.senders (take l.process (process_names l.names)));
  text : Says (missing_names (missing l.senders (take l.process (process_names l.names)))) l.initial.out l.out;
}
