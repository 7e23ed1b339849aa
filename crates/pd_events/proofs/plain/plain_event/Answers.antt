-- What a line of the plain shape says.
use Rattle.std.proofs.Common.{map, string_bytes}
use Rattle.read_traces.specs.Columns.{seen_kind_view}
use Rattle.pd_events.proofs.PlainLines.{whole_line_read}
use Rattle.pd_events.proofs.plain.plain_event.Goals as goal

pub returns : goal.returns
returns c =
    let found = rw c.in-Some.is at c.in_ok-kind.ensures in
    whole_line_read c.args.names.now c.args.process (map string_bytes c.vars_of.result.now) c.args.bytes.now
    c.new-tokens.result c.opens.new.self c.next_event.new.tokens (seen_kind_view c.in-Some.kind) found.0
    c.next_event.new.room.sets.items c.vars_of.ensures c.in-Ok.ensures.cases.1 c.new-tokens.ensures
    (c.opens.ensures c.if-not-opens.false) found.1 (c.is_over.ensures c.if-not-is_over.false) found.2
