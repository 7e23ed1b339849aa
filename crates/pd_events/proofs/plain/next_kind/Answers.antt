-- The kind of event after a field that says a message.
use Rattle.std.proofs.Common.{sym, ◌∙◌}
use Rattle.std.proofs.lemmas.Slice.Eq.{bytes_eq-Decides}
use Rattle.pd_events.proofs.PlainLines.{recv_read, send_read}
use Rattle.pd_events.proofs.plain.next_kind.Goals as goal

pub returns-then-eq : goal.returns-then-eq
returns-then-eq c = λ settings.
    rw c.in-Local.is (send_read c.args.name.now c.in_ok-id.id.now settings c.args.tokens.now c.text.new.self
    ((bytes_eq-Decides c.args.name.now _).0 (sym c.if-eq.ensures) ∙ c.as_bytes.ensures.value) c.in_ok-id.ensures)

pub returns-then-eq-2 : goal.returns-then-eq-2
returns-then-eq-2 c = λ settings.
    rw c.in-Local.is (recv_read c.args.name.now c.in_ok-id.id.now settings c.args.tokens.now c.text.new.self
    ((bytes_eq-Decides c.args.name.now _).0 (sym c.if-eq-2.ensures) ∙ c.as_bytes-2.ensures.value) c.in_ok-id.ensures)
