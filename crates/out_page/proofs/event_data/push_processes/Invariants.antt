-- The processes so far.
use Rattle.std.proofs.Common.{◌≡◌, ◌++◌, take}
use Rattle.out_page.specs.EventData.{process_text}
use Rattle.out_page.specs.JsonTexts.{listed}
use Rattle.out_page.proofs.event_data.push_processes.Given as goal

abbrev pub invariant-loop-p : goal.invariant-loop-p
invariant-loop-p l = l.out.items ≡ l.initial.out.items ++ listed process_text (take l.p l.names)
