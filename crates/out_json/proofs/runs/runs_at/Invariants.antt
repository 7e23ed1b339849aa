-- The runs so far, with those of the events that are left, are the runs of all.
use Rattle.std.proofs.Common.{◌≡◌, ◌<◌, ◌≤◌, ◌+◌, ◌++◌, length, map, drop}
use Rattle.pd_report.specs.Steps.{name_at, names_at, names_view}
use Rattle.serde_json.specs.View.{view}
use Rattle.out_json.specs.JsonReports.{run_data, runs, runs_from}
use Rattle.out_json.proofs.runs.runs_at.Given as goal

abbrev pub invariant-loop-step : goal.invariant-loop-step
invariant-loop-step l = record {
  small : l.count ≤ l.step-index + 1;
  there : l.last < length l.names;
  whole : map view l.runs.items ++ map run_data (runs_from (name_at (names_view l.names) l.last) l.count
      (names_at (names_view l.names) (drop l.step-index l.others)))
      ≡ map run_data (runs (names_at (names_view l.names) l.steps));
}
