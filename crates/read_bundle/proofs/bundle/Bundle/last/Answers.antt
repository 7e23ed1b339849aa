-- What was held back belongs to the part, or is a separator.
use Rattle.std.proofs.Common.{◌∙◌, ap, refl, sym, arith}
use Rattle.read_bundle.specs.Cutting.{line_marks}
use Rattle.read_bundle.specs.Steps.{State}
use Rattle.std.specs.Prelude.{take}
use Rattle.read_bundle.proofs.Moving.{last_bytes, last_separator, slice_none}
use Rattle.read_bundle.proofs.bundle.Bundle.last.Goals as goal

pub returns-then-held-lt3 : goal.returns-then-held-lt3
returns-then-held-lt3 c =
    let is = sym c.self.view_is in
    last_bytes c.args.self.now _ c.in-Held.held (ap (λ (s : State). s.cutter) is ∙ c.in-Held.is) (omega arith)
    c.if-held-lt3.true c.requires.empty c.requires.ended refl (sym (ap (λ (s : State). s.buffer) is))
    (slice_none (take c.in-Held.held line_marks) c.self.inside.piece.items c.self.inside.start)
    (sym (ap (λ (s : State). s.count) is)) (sym (ap (λ (s : State). s.ended) is)) c.self.invariant.4

pub returns-else-held-lt3 : goal.returns-else-held-lt3
returns-else-held-lt3 c =
    let is = sym c.self.view_is in
    last_separator c.args.self.now _ c.in-Held.held (ap (λ (s : State). s.cutter) is ∙ c.in-Held.is) (omega arith)
    c.requires.empty c.requires.ended refl (sym (ap (λ (s : State). s.buffer) is))
    (sym (ap (λ (s : State). s.count) is)) (sym (ap (λ (s : State). s.ended) is)) c.self.invariant.4
