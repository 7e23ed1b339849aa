-- The processes and their variables.
use Rattle.std.proofs.Common.{map}
use Rattle.pd_pred.specs.Names.{entries_view}
use Rattle.pd_spec.specs.Outlines.{process_view}
use Rattle.def_format.proofs.DistinctNames.{names_differ}
use Rattle.pd_spec.proofs.Mapped.{names_of_entries}
use Rattle.pd_spec.proofs.outline.Outline.names.Goals as goal

pub new-requires : goal.new-requires
new-requires c =
    record {
      processes =
          names_differ (entries_view c.in_ok-processes.processes.items)
          (rw (
            c.in_ok-processes.ensures.names,
            c.deref.ensures.value,
            names_of_entries (map process_view c.args.self.now.processes.items),
          ) c.requires);
      variables = c.in_ok-processes.ensures.distinct;
    }
