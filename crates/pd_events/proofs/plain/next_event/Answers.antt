-- The kind of event and the variables that it sets, from the fields of a line.
use Rattle.std.proofs.Common.{map, string_bytes, sym, ◌∙◌}
use Rattle.std.proofs.lemmas.Slice.Eq.{bytes_eq-Decides}
use Rattle.read_traces.specs.Columns.{seen_kind_view}
use Rattle.pd_events.proofs.PlainLines.{fields_read, no_field_read, sets_read}
use Rattle.pd_events.proofs.plain.next_event.Goals as goal

pub fields-init : goal.fields-init
fields-init c =
    no_field_read (map string_bytes c.args.vars.now) c.clear.new.self.items c.args.tokens.now c.clear.ensures.items

pub returns-then-closes : goal.returns-then-closes
returns-then-closes c =
    let so_far = c.fields.invariant in
    fields_read (map string_bytes c.args.vars.now) c.args.tokens.now c.fields.tokens c.closes.new.self
    (seen_kind_view c.fields.kind) so_far.0 c.fields.has_sets c.fields.room.sets.items so_far.1 so_far.2
    (c.closes.ensures.yes c.if-closes.true)

pub fields-preserved-then-not-has_sets : goal.fields-preserved-then-not-has_sets
fields-preserved-then-not-has_sets c =
    let so_far = c.fields.invariant in
    let found = c.in_ok-next_sets.ensures c.if-not-branch.false in
    let stays = rw c.if-closes.false at c.closes.ensures.no in
    sets_read (map string_bytes c.args.vars.now) c.args.tokens.now c.fields.tokens c.key.new.self c.opens.new.self
    c.next_sets.new.tokens c.in-Some.name.now (seen_kind_view c.fields.kind) so_far.0 c.fields.has_sets
    c.fields.room.sets.items c.next_sets.new.room.sets.items found.0 so_far.1 c.if-not-has_sets.true so_far.2
    (sym stays ∙ c.in-Some.ensures.0)
    ((bytes_eq-Decides c.in-Some.name.now _).0 (sym c.if-eq.ensures) ∙ c.as_bytes.ensures.value)
    (c.opens.ensures c.if-not-opens.false) found.1 found.2
