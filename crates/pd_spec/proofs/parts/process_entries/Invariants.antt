-- What the loops of `process_entries` keep.
use Rattle.std.proofs.Common.{◌≡◌, map, take}
use Rattle.pd_pred.specs.Names.{entries_view}
use Rattle.pd_spec.specs.Outlines.{entry_in, process_view, AllHaveDistinctVars}
use Rattle.pd_spec.proofs.parts.process_entries.Given as goal

abbrev pub invariant-loop-process : goal.invariant-loop-process
invariant-loop-process l =
    record {
      names : entries_view l.names.items ≡ map entry_in (map process_view (take l.process-index l.processes));
      distinct : AllHaveDistinctVars (entries_view l.names.items);
    }
