-- One level more, and the last one.
use Rattle.std.proofs.Common.{◌^◌, ◌<◌, arith, length, ◌≡◌, sym, subst, ◌*◌, ◌+◌, ℕ, refl}
use Rattle.std.proofs.Math.Pow.{pow_pos}
use Rattle.wide_gates.specs.Tables.{HasWidth}
use Rattle.wide_gates.proofs.Widths.{levels_more, table_whole, width_more}
use Rattle.wide_gates.proofs.table.Table.new.Goals as goal
use Rattle.wide_gates.proofs.table.Table.new.Goals.{In_ok-push}

next_width : (c : In_ok-push) → HasWidth c.args.row.now (c.args.events + 1) (c.loop-width.width + c.loop-width.width)
    c.in_ok-next.next.items
next_width c =
    c.in_ok-next.ensures c.args.row.now (c.args.events + 1)
    (subst (HasWidth c.args.row.now (c.args.events + 1) c.loop-width.width) (sym c.deref.ensures.value)
    c.loop-width.invariant.here)

pub loop-width-smaller : goal.loop-width-smaller
loop-width-smaller c =
    let at = (goal.at.loop-width-smaller c).In_ok-push in
    let next : length c.in_ok-next.next.items + (c.loop-width.width + c.loop-width.width) ≡ c.args.events + 1 + 1 =
    (next_width at).many in
    let here : length c.loop-width.level.items + c.loop-width.width ≡ c.args.events + 1 + 1 =
    c.loop-width.invariant.here.many in
    let some : 0 < 2 ^ length c.loop-width.levels.items = pow_pos (length c.loop-width.levels.items) in
    omega (arith, next, here, some, c.loop-width.invariant.width_is)

pub loop-width-preserved : goal.loop-width-preserved
loop-width-preserved c =
    let at = (goal.at.loop-width-preserved c).In_ok-push in
    let row = c.args.row.now in
    let width = c.loop-width.width in
    let levels = c.loop-width.levels.items in
    record {
      width_is =
          width_more width levels c.push.new.self.items c.loop-width.level c.loop-width.invariant.width_is
          c.in_ok-push.ensures.items;
      few = omega (arith, c.loop-width-test.true, c.len.ensures, c.loop-width.invariant.here.many);
      here =
          subst (λ (w : ℕ). HasWidth row (c.args.events + 1) w c.in_ok-next.next.items)
          (let e : width + width ≡ width * 2 = omega arith in e) (next_width at);
      each =
          levels_more row (c.args.events + 1) width levels c.push.new.self.items c.loop-width.level
          c.loop-width.invariant.width_is c.loop-width.invariant.here c.in_ok-push.ensures.items
          c.loop-width.invariant.each;
    }

pub returns : goal.returns
returns c =
    table_whole c.args.row.now c.args.events c.loop-width.width c.loop-width.levels.items
    c.push-2.new.self.items c.loop-width.level _ refl refl c.loop-width.invariant.width_is
    c.loop-width.invariant.here c.in_ok-push-2.ensures.items
    (omega (arith, c.loop-width-test.false, c.len.ensures)) c.loop-width.invariant.each
