-- What the loops of `take_lines` keep.
use Rattle.std.proofs.Common.{◌≡◌, ◌<◌, ℕ, List, length}
use Rattle.pd_frames.specs.Cuts.{Cuts, Fits, IsOpen}
use Rattle.pd_frames.specs.Views.{lines_view}
use Rattle.pd_frames.proofs.cut.take_lines.Given as goal

abbrev pub invariant-lines : goal.invariant-lines
invariant-lines l = record {
  fits : Fits (length l.kept) l.line l.total;
  kept : 0 < length l.kept → l.kept ≡ l.initial.kept;
  cuts : (bytes : List ℕ) → IsOpen l.initial.kept l.initial.line l.initial.total bytes
      → Cuts bytes l.piece l.kept l.line l.total l.tail (lines_view l.lines.items);
}

abbrev pub decreases-lines : goal.decreases-lines
decreases-lines l = length l.tail
