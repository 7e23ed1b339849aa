-- What the loops of `take_each` keep.
use Rattle.std.proofs.Common.{◌≡◌, drop, length, take}
use Rattle.pd_frames.specs.Views.{lines_view}
use Rattle.def_format.specs.ReadingLaws.{read_on}
use Rattle.pd_spec.specs.Views.{document_view}
use Rattle.pd_events.specs.Progress.{reading_view}
use Rattle.pd_events.proofs.progress.take_each.Given as goal

-- what the lines so far gave, and then the lines that are left
abbrev pub invariant-loop-line : goal.invariant-loop-line
invariant-loop-line l = record {
  so_far : read_on l.limit (document_view l.spec).names (reading_view l.phase l.events) (lines_view
      (drop l.line-index l.lines))
      ≡ read_on l.limit (document_view l.spec).names (reading_view l.fn.start l.fn.events) (lines_view l.lines);
  keeps : take (length l.fn.events) l.events ≡ l.fn.events;
}
