-- The bytes before the first LF, or all.
use Rattle.std.proofs.Common.{arith}
use Rattle.read_lines.proofs.Slices.{all_part, part_before}
use Rattle.read_lines.proofs.held.Held.take_part.Goals as goal

pub returns-in_ok-keep-in-Some : goal.returns-in_ok-keep-in-Some
returns-in_ok-keep-in-Some c =
    let found = rw c.deref.ensures.value at c.in-Some.ensures in
    rw (← c.self.view_is) (part_before c.self.inside.piece.items c.self.inside.start c.self.inside.end c.in-Some.count
    c.args.line.now.items c.keep.new.line.items c.self.invariant.0 found.0.high found.1
    (λ j below e. found.0.before j (omega arith) below e)
    (rw c.deref-in-Some.ensures.value at c.in_ok-keep-in-Some.ensures))

pub returns-in_ok-keep-in-None : goal.returns-in_ok-keep-in-None
returns-in_ok-keep-in-None c =
    let none = rw c.deref.ensures.value at c.in-None.ensures in
    rw (← c.self.view_is) (all_part c.self.inside.piece.items c.self.inside.start c.self.inside.end
    c.args.line.now.items c.keep-in-None.new.line.items (λ j below e. none j (omega arith) below e)
    (rw c.deref-in-None.ensures.value at c.in_ok-keep-in-None.ensures))
