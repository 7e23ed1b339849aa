-- One step, after a read if nothing was left to cut.
use Rattle.std.proofs.Common.{◌∙◌, ap, sym, arith}
use Rattle.read_bundle.specs.Steps.{State}
use Rattle.read_bundle.proofs.Moving.{fills_step, moves_step, slice_over}
use Rattle.read_bundle.proofs.bundle.Bundle.next.Goals as goal

pub returns-then-self-clause-steps : goal.returns-then-self-clause-steps
returns-then-self-clause-steps g c = λ input closed part cut.
    moves_step c.cut.result input (g.R.ByteSource.left c.args.reader.now) closed part c.args.self.now
    c.cut.new.self cut c.cut.ensures

pub returns-then-self-2-clause-steps : goal.returns-then-self-2-clause-steps
returns-then-self-2-clause-steps g c = λ input closed part cut.
    moves_step c.last.result input (g.R.ByteSource.left c.args.reader.now) closed part c.args.self.now
    c.last.new.self cut c.last.ensures

pub returns-then-self-3-clause-steps : goal.returns-then-self-3-clause-steps
returns-then-self-3-clause-steps g c = λ input closed part cut.
    moves_step c.cut-then-self-3.result input (g.R.ByteSource.left c.fill.new.reader) closed part c.fill.new.self
    c.cut-then-self-3.new.self
    (fills_step input (g.R.ByteSource.left c.args.reader.now) (g.R.ByteSource.left c.fill.new.reader) closed
    part c.args.self.now c.fill.new.self cut
    (sym (ap (λ (s : State). s.buffer) c.self.view_is)
    ∙ slice_over c.self.inside.piece.items c.self.inside.start c.self.inside.end (omega (arith, c.if-self.false)))
    (sym (ap (λ (s : State). s.ended) c.self.view_is) ∙ c.if-self-2.false)
    c.in_ok-fill.ensures.fills)
    c.cut-then-self-3.ensures

pub returns-clause-steps : goal.returns-clause-steps
returns-clause-steps g c = λ input closed part cut.
    moves_step c.last-2.result input (g.R.ByteSource.left c.fill.new.reader) closed part c.fill.new.self
    c.last-2.new.self
    (fills_step input (g.R.ByteSource.left c.args.reader.now) (g.R.ByteSource.left c.fill.new.reader) closed
    part c.args.self.now c.fill.new.self cut
    (sym (ap (λ (s : State). s.buffer) c.self.view_is)
    ∙ slice_over c.self.inside.piece.items c.self.inside.start c.self.inside.end (omega (arith, c.if-self.false)))
    (sym (ap (λ (s : State). s.ended) c.self.view_is) ∙ c.if-self-2.false)
    c.in_ok-fill.ensures.fills)
    c.last-2.ensures
