-- The variables that the members of an object set.
use Rattle.std.proofs.Common.{[], get_or, map, refl, rules, string_bytes, sym, ◌∙◌}
use Rattle.std.proofs.lemmas.List.{length-map}
use Rattle.pd_events.proofs.PlainSettings.{brace_read, nothing_read, number_read}
use Rattle.pd_events.proofs.plain.next_sets.Goals as goal

pub members-init : goal.members-init
members-init c =
    nothing_read (map string_bytes c.args.vars.now) c.no_numbers.new.row.items c.args.tokens.now
    (c.in_ok-no_numbers.ensures.len ∙ sym (length-map c.args.vars.now string_bytes))
    (λ w h. c.in_ok-no_numbers.ensures.none w)

pub returns-then-closes : goal.returns-then-closes
returns-then-closes c = λ _.
    brace_read (map string_bytes c.args.vars.now) c.members.room.row.items c.find_sets.new.sets.items
    c.args.tokens.now c.members.tokens c.closes.new.self (c.closes.ensures.yes c.if-closes.true)
    (rw (c.deref.ensures.value) at c.in_ok-find_sets.ensures) c.members.invariant

pub members-preserved : goal.members-preserved
members-preserved c =
    let vars = map string_bytes c.args.vars.now in
    let number = c.in-Some-number.ensures in
    let found = rw c.in-Some.is at c.in_ok-v.ensures in
    let stays = rw c.if-closes.false at c.closes.ensures.no in
    number_read vars c.in-Some.v c.members.room.row.items c.set_number.new.row.items c.args.tokens.now
    c.members.tokens c.next_var.new.tokens c.number.new.self (get_or vars c.in-Some.v []) number.0
    c.in-Some-number.value _ c.requires (rw (length-map c.args.vars.now string_bytes) found.0) refl
    (sym stays ∙ found.1) number.1 number.2 c.members.invariant c.set_number.ensures (search rules)
