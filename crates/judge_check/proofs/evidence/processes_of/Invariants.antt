-- The processes of the names so far.
use Rattle.std.proofs.Common.{◌≡◌, map, take}
use Rattle.def_format.specs.Names.{process_named}
use Rattle.pd_report.specs.Steps.{names_view}
use Rattle.judge_check.proofs.evidence.processes_of.Given as goal

abbrev pub invariant-loop-name : goal.invariant-loop-name
invariant-loop-name l =
    l.processes.items ≡ map (process_named l.names) (names_view (take l.name-index l.reported))
