-- The rows are those of the history in the slot, which goes back as it was.
use Rattle.std.proofs.Common.{◌∷◌, ap, sym, ◌∙◌, inl}
use Rattle.atomic_table.specs.Table.{rest}
use Rattle.pd_register.proofs.SeatFacts.{holds_now, looks, rows_shown}
use Rattle.pd_register.proofs.register.Register.look.Goals as goal

pub slot_mut-requires : goal.slot_mut-requires
slot_mut-requires g c =
    let t = c.lock.ensures.taken in
    let list = ap (λ m. m.1) t.1 in
    (c.lock.ensures.own.0 ∙ c.requires.own, (t.0, list ∙ ap (λ l. (0, t.0) ∷ rest l) (sym list)))

pub unlock-requires-clause-held : goal.unlock-requires-clause-held
unlock-requires-clause-held g c =
    let held = c.slot_mut.result.now in
    let h = holds_now c.args.seat.now.me c.lock.new.seat.me held c.lock.ensures.taken c.slot_mut.ensures.value
    c.requires.idle.2 in (
      ap (λ v. v.holds) h.view_is,
      (
        held,
        ap (λ l. (0, held) ∷ l) h.empty,
        h.len ∙ sym (ap (λ v. v.streams) h.view_is),
        inl (sym (ap (λ v. v.seen) h.view_is)),
      ),
    )

pub returns-clause-looks : goal.returns-clause-looks
returns-clause-looks g c =
    let held = c.slot_mut.result.now in
    let h = holds_now c.args.seat.now.me c.lock.new.seat.me held c.lock.ensures.taken c.slot_mut.ensures.value
    c.requires.idle.2 in
    looks c.args.seat.now.me c.lock.new.seat.me c.unlock.new.seat.me held h c.unlock.ensures.given

pub returns-clause-shown : goal.returns-clause-shown
returns-clause-shown g c =
    let held = c.slot_mut.result.now in
    let h = holds_now c.args.seat.now.me c.lock.new.seat.me held c.lock.ensures.taken c.slot_mut.ensures.value
    c.requires.idle.2 in
    rows_shown c.snapshot-answer.result c.args.seat.now.me c.unlock.new.seat.me held h.len
    (ap (λ m. m.0.seen) c.unlock.ensures.given) c.snapshot-answer.ensures
