-- The counts that are left give what all give.
use Rattle.std.proofs.Common.{◌≡◌, drop}
use Rattle.serde_json.specs.Data.{no_members}
use Rattle.serde_json.specs.View.{members_view}
use Rattle.out_json.specs.JsonReports.{with_counts}
use Rattle.out_json.proofs.answers.cut_fields.Given as goal

abbrev pub invariant-loop-process : goal.invariant-loop-process
invariant-loop-process l =
    with_counts (drop l.process l.names) (drop l.process l.counts) (members_view l.fields.entries)
    ≡ with_counts l.names l.counts no_members
