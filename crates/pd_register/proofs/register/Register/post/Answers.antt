-- The step may be made, the slot may go back, and the seat stays right.
use Rattle.std.proofs.Common.{◌≡◌, ℕ, ◌<◌, true, ◌∷◌, ap, sym, subst, ◌∙◌, arith}
use Rattle.atomic_table.specs.Table.{rest}
use Rattle.def_format.specs.Histories as histories
use Rattle.def_format.specs.Histories.{allows}
use Rattle.pd_register.specs.Views.{step_view, row_in}
use Rattle.pd_register.proofs.ViewFacts.{row_in_here}
use Rattle.pd_register.proofs.SeatFacts.{own_row, stored_row, stands_own, follows, posts_when_added, posts_when_refused, posts_kept, own_after, holds_now, given_legal}
use Rattle.pd_register.proofs.register.Register.post.Goals as goal

pub slot_mut-held-requires : goal.slot_mut-held-requires
slot_mut-held-requires g c =
    let t = c.lock.ensures.taken in
    let list = ap (λ m. m.1) t.1 in
    (c.lock.ensures.own.0 ∙ c.requires.own.0, (t.0, list ∙ ap (λ l. (0, t.0) ∷ rest l) (sym list)))

pub post-answer-requires-clause-stream : goal.post-answer-requires-clause-stream
post-answer-requires-clause-stream g c =
    let me = c.args.me.now in
    let held = c.slot_mut-held.result.now in
    let h = holds_now me.inner.me c.lock.new.seat.me held c.lock.ensures.taken c.slot_mut-held.ensures.value me.own.2 in
    omega (arith, h.len, me.own.3)

pub post-answer-requires-clause-allowed : goal.post-answer-requires-clause-allowed
post-answer-requires-clause-allowed g c =
    let me = c.args.me.now in
    let held = c.slot_mut-held.result.now in
    let h = holds_now me.inner.me c.lock.new.seat.me held c.lock.ensures.taken c.slot_mut-held.ensures.value me.own.2 in
    let here = own_row me.inner.me.0.rows me.stream me.row held.posts.items me.own.0 h.fits.0 in
    let row_is = stored_row held me.stream me.row (omega (arith, h.len, me.own.3)) here in
    subst (λ (r : histories.Row). allows r (step_view c.args.step) ≡ true) (sym row_is) c.requires.allowed

pub unlock-requires-clause-held : goal.unlock-requires-clause-held
unlock-requires-clause-held g c =
    let me = c.args.me.now in
    let held = c.slot_mut-held.result.now in
    let now = c.lock.new.seat.me in
    let new = c.post-answer.new.self in
    let h = holds_now me.inner.me now held c.lock.ensures.taken c.slot_mut-held.ensures.value me.own.2 in
    let stands = stands_own now.0 me.stream me.row (ap (λ v. v.rows) h.view_is ∙ me.own.0) in
    let kept = posts_kept c.post-answer.result _ _ _ _ c.post-answer.ensures.kept in (
      ap (λ v. v.holds) h.view_is,
      (
        new,
        ap (λ l. (0, new) ∷ l) h.empty,
        c.post-answer.ensures.rows ∙ (h.len ∙ sym (ap (λ v. v.streams) h.view_is)),
        follows c.post-answer.result now.0 held.posts.items new.posts.items me.stream c.args.step
            (ap (λ v. v.seen) h.view_is) stands c.post-answer.ensures.posted kept,
      ),
    )

pub invariant_of-me : goal.invariant_of-me
invariant_of-me g c =
    let me = c.args.me.now in
    let held = c.slot_mut-held.result.now in
    let now = c.lock.new.seat.me in
    let new = c.post-answer.new.self.posts.items in
    let h = holds_now me.inner.me now held c.lock.ensures.taken c.slot_mut-held.ensures.value me.own.2 in
    let here = own_row me.inner.me.0.rows me.stream me.row held.posts.items me.own.0 h.fits.0 in
    let more = posts_when_added c.post-answer.result c.is_ok.result held.posts.items new me.stream c.args.step
    c.is_ok.ensures.value c.if-is_ok.true c.post-answer.ensures.posted in
    let row = ap (row_in me.stream) more
    ∙ row_in_here me.stream held.posts.items c.args.step me.row c.after-me.result here c.after-me.ensures in
    let near = subst (λ (j : ℕ). me.stream < j) (sym (ap (λ v. v.streams) h.view_is)) me.own.3 in
    let t = own_after c.unlock.new.seat.me now me.stream me.row c.after-me.result new c.unlock.ensures.given
    (ap (λ v. v.rows) h.view_is ∙ me.own.0) h.empty row near in
    record { own = t.0; shown = t.1 }

pub invariant_of-me-else-is_ok : goal.invariant_of-me-else-is_ok
invariant_of-me-else-is_ok g c =
    let me = c.args.me.now in
    let held = c.slot_mut-held.result.now in
    let now = c.lock.new.seat.me in
    let new = c.post-answer.new.self.posts.items in
    let h = holds_now me.inner.me now held c.lock.ensures.taken c.slot_mut-held.ensures.value me.own.2 in
    let here = own_row me.inner.me.0.rows me.stream me.row held.posts.items me.own.0 h.fits.0 in
    let kept = posts_kept c.post-answer.result _ _ _ _ c.post-answer.ensures.kept in
    let same = posts_when_refused c.post-answer.result c.is_ok.result held.posts.items new c.is_ok.ensures.value
    c.if-is_ok.false kept in
    let row = ap (row_in me.stream) same ∙ here in
    let near = subst (λ (j : ℕ). me.stream < j) (sym (ap (λ v. v.streams) h.view_is)) me.own.3 in
    let t = own_after c.unlock.new.seat.me now me.stream me.row me.row new c.unlock.ensures.given
    (ap (λ v. v.rows) h.view_is ∙ me.own.0) h.empty row near in
    record { own = t.0; shown = t.1 }

pub returns-then-is_ok-clause-legal : goal.returns-then-is_ok-clause-legal
returns-then-is_ok-clause-legal g c =
    let me = c.args.me.now in
    let held = c.slot_mut-held.result.now in
    let now = c.lock.new.seat.me in
    let h = holds_now me.inner.me now held c.lock.ensures.taken c.slot_mut-held.ensures.value me.own.2 in
    given_legal c.unlock.new.seat.me now c.post-answer.new.self _ c.unlock.ensures.given
    (c.post-answer.ensures.rows ∙ (h.len ∙ c.requires.own.1))

pub returns-else-is_ok-clause-legal : goal.returns-else-is_ok-clause-legal
returns-else-is_ok-clause-legal g c =
    let me = c.args.me.now in
    let held = c.slot_mut-held.result.now in
    let now = c.lock.new.seat.me in
    let h = holds_now me.inner.me now held c.lock.ensures.taken c.slot_mut-held.ensures.value me.own.2 in
    given_legal c.unlock.new.seat.me now c.post-answer.new.self _ c.unlock.ensures.given
    (c.post-answer.ensures.rows ∙ (h.len ∙ c.requires.own.1))
