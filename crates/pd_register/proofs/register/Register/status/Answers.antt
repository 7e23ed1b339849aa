-- The seat stays right, and its own row is shown.
use Rattle.std.proofs.Common.{◌<◌, ℕ, ap, sym, subst, ◌∙◌}
use Rattle.pd_register.proofs.SeatFacts.{own_row, own_shown, rows_renamed}
use Rattle.pd_register.proofs.register.Register.status.Goals as goal

pub invariant_of-me : goal.invariant_of-me
invariant_of-me g c =
    let me = c.args.me.now in
    let t = c.look.ensures.looks in record {
      own = (
        ap (λ m. m.0.rows) t.0 ∙ me.own.0,
        ap (λ m. m.0.holds) t.0,
        ap (λ m. m.1) t.0,
        subst (λ (n : ℕ). me.stream < n) (sym (ap (λ m. m.0.streams) t.0)) me.own.3,
      );
      shown = own_row me.inner.me.0.rows me.stream me.row c.look.new.seat.me.0.seen me.own.0 t.1.0;
    }

pub returns-clause-mine : goal.returns-clause-mine
returns-clause-mine g c =
    let me = c.args.me.now in
    let seen = c.look.new.seat.me.0.seen in
    let here = own_row me.inner.me.0.rows me.stream me.row seen me.own.0 c.look.ensures.looks.1.0 in
    own_shown c.look.result me.inner.me.0.streams me.stream me.row seen me.own.3 here c.look.ensures.shown

pub returns-clause-shown : goal.returns-clause-shown
returns-clause-shown g c = rows_renamed c.look.result _ _ _ c.requires.own.1 c.look.ensures.shown
