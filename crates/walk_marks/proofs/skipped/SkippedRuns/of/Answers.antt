-- With no bit no run is skipped.
use Rattle.std.proofs.Common.{slice_index_or}
use Rattle.def_model.specs.Predicates.{test_of}
use Rattle.walk_marks.proofs.skipped.SkippedRuns.of.Goals as goal

pub returns : goal.returns
returns c tests test level are lt =
    c.none.ensures (slice_index_or tests c.args.q test).recorded.events
    (test_of (slice_index_or tests c.args.q test).recorded (slice_index_or tests c.args.q test).predicate) level.runs
