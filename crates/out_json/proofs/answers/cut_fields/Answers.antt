-- One more count, and the end of either list.
use Rattle.std.proofs.Common.{◌∙◌, sym, ap, arith}
use Rattle.serde_json.specs.Data.{no_members, put}
use Rattle.serde_json.specs.View.{members_view}
use Rattle.out_json.specs.JsonReports.{with_counts}
use Rattle.out_json.proofs.Counts.{no_more_counts, one_more_count}
use Rattle.out_json.proofs.answers.cut_fields.Goals as goal

pub loop-process-preserved : goal.loop-process-preserved
loop-process-preserved c =
    one_more_count c.args.names.now c.args.counts.now c.loop-process.process
    (members_view c.loop-process.fields.entries) (members_view c.put.new.map.entries) c.name.result.now 0
    (with_counts c.args.names.now c.args.counts.now no_members) (omega arith) (omega arith) c.name.ensures
    (c.in_ok-put.ensures.ok
    ∙ ap (λ value. put c.name.result.now value (members_view c.loop-process.fields.entries)) c.from.ensures)
    c.loop-process.invariant

pub returns : goal.returns
returns c =
    sym (no_more_counts c.args.names.now c.args.counts.now c.loop-process.process
    (members_view c.loop-process.fields.entries) (omega arith))
    ∙ c.loop-process.invariant
