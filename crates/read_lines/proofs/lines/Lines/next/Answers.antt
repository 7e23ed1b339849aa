-- The line ends, or a read fails, or it is the last one.
use Rattle.std.proofs.Common.{refl}
use Rattle.read_lines.proofs.Parts.{breaks_off, last_gives, line_goes_on, next_line}
use Rattle.read_lines.proofs.lines.Lines.next.Goals as goal

pub returns-then-branch-clause-gives : goal.returns-then-branch-clause-gives
returns-then-branch-clause-gives g c = λ input lines has.
    next_line input lines c.pieces.line.items c.take_part.new.line.items
    (g.R.ByteSource.left c.pieces.self-inside.reader) c.pieces.self-inside.held c.take_part.new.self c.line_of.result _
    (c.pieces.invariant.at input lines has) (rw c.if-branch.true at c.in_ok-take_part.ensures) c.line_of.ensures refl
    refl c.pieces.invariant.more

pub returns-in_err-fill-clause-cause : goal.returns-in_err-fill-clause-cause
returns-in_err-fill-clause-cause g c reported = λ input lines has.
    breaks_off input lines c.take_part.new.line.items (g.R.ByteSource.left c.pieces.self-inside.reader)
    (line_goes_on input lines c.pieces.line.items c.take_part.new.line.items
    (g.R.ByteSource.left c.pieces.self-inside.reader) c.pieces.self-inside.held c.take_part.new.self
    (c.pieces.invariant.at input lines has) (rw c.if-branch.false at c.in_ok-take_part.ensures))
    c.in_err-fill.ensures.cause

pub returns-then-not-branch-clause-gives : goal.returns-then-not-branch-clause-gives
returns-then-not-branch-clause-gives g c =
    last_gives c.last_line.result c.take_part.new.line.items c.args.self.now _
    (g.R.ByteSource.left c.pieces.self-inside.reader) (g.R.ByteSource.left c.fill.new.reader) c.fill.new.self
    (λ input lines has. line_goes_on input lines c.pieces.line.items c.take_part.new.line.items
    (g.R.ByteSource.left c.pieces.self-inside.reader) c.pieces.self-inside.held c.take_part.new.self
    (c.pieces.invariant.at input lines has) (rw c.if-branch.false at c.in_ok-take_part.ensures))
    (rw c.if-not-branch.true at c.in_ok-fill.ensures.fills) c.last_line.ensures.none c.last_line.ensures.some refl
