-- The bytes that the cut takes are held back, end a separator, or are given.
use Rattle.std.proofs.Common.{◌≤◌, ◌+◌, ◌-◌, ◌++◌, ap, refl, drop, take, []}
use Rattle.read_bundle.specs.Cutting.{IsCut, line_marks}
use Rattle.read_bundle.specs.declared.cutter.Cutting.TheVariants as cuts
use Rattle.read_bundle.proofs.Moving.{cut_hold, cut_part, cut_separator, slice_none, slice_rest, slice_room, slice_run}
use Rattle.read_bundle.proofs.bundle.Bundle.cut.Goals as goal

pub returns-in-Hold : goal.returns-in-Hold
returns-in-Hold c =
    let piece = c.self.inside.piece.items in
    let start = c.self.inside.start in
    let end = c.self.inside.end in
    let cut : IsCut c.self.inside.cutter c.cut-cut.new.self (take (end - start) (drop start piece)) cuts.Hold =
    rw c.deref.ensures.value at c.in-Hold.ensures in
    let room : start + 1 ≤ end = slice_room piece start end 1 c.self.invariant.1 cut.within in
    rw (← c.self.view_is) (cut_hold _ _ cut (slice_rest piece start end 1 room) (slice_none [] piece (start + 1)) refl
    refl
    c.self.invariant.4)

pub returns-in-Separator : goal.returns-in-Separator
returns-in-Separator c =
    let piece = c.self.inside.piece.items in
    let start = c.self.inside.start in
    let end = c.self.inside.end in
    let cut : IsCut c.self.inside.cutter c.cut-cut.new.self (take (end - start) (drop start piece)) cuts.Separator =
    rw c.deref.ensures.value at c.in-Separator.ensures in
    let room : start + 1 ≤ end = slice_room piece start end 1 c.self.invariant.1 cut.within in
    rw (← c.self.view_is) (cut_separator _ _ cut (slice_rest piece start end 1 room) refl refl c.self.invariant.4)

pub returns-in-Part : goal.returns-in-Part
returns-in-Part c =
    let piece = c.self.inside.piece.items in
    let start = c.self.inside.start in
    let end = c.self.inside.end in
    let held = c.in-Part.held in
    let n = c.in-Part.count in
    let cut : IsCut c.self.inside.cutter c.cut-cut.new.self (take (end - start) (drop start piece)) (cuts.Part held n) =
    rw c.deref.ensures.value at c.in-Part.ensures in
    let room : start + n ≤ end = slice_room piece start end n c.self.invariant.1 cut.within in
    rw (← c.self.view_is) (cut_part _ _ held n cut (slice_rest piece start end n room)
    (ap (λ run. take held line_marks ++ run) (slice_run piece start end n room)) refl refl c.self.invariant.4)
