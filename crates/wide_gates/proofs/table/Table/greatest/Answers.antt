-- Two stretches as wide as the greatest power of 2 that isn't more than there are counts.
use Rattle.std.proofs.Common.{arith, sym, subst, ◌≡◌, ◌-◌, ◌+◌, ◌*◌, ◌^◌, ◌<◌, ◌≤◌, ℕ, ℤ}
use Rattle.std.proofs.lemmas.Int.{to_z-of_z}
use Rattle.std.specs.Int.{w128}
use Rattle.std.specs.Prelude.{Vec}
use Rattle.std.specs.Global.{Global}
use Rattle.wide_gates.specs.Tables.{HasWidth, IsGreatest}
use Rattle.wide_gates.proofs.table.Table.greatest.Goals as goal

pub returns : goal.returns
returns c =
    let row = c.args.row.now in
    let n : ℕ = c.args.events + 1 in
    let k : ℕ = c.ilog2-k.result in
    let least : 2 ^ k ≤ c.args.high + 1 - c.args.low = c.ilog2-k.ensures.power_le in
    let most : c.args.high + 1 - c.args.low < 2 * 2 ^ k = c.ilog2-k.ensures.next_power_gt in
    let width : c.power.result ≡ 2 ^ k = c.power.ensures in
    let has : HasWidth row n (2 ^ k) c.deref.result.now =
    subst (HasWidth row n (2 ^ k)) (sym c.deref.ensures.value)
    (subst (λ (v : Vec ℤ Global). HasWidth row n (2 ^ k) v.items) (sym c.index.ensures)
    (c.requires.table.each c.if-self.false k c.index.result.now (omega (arith, least, c.requires.within)))) in
    let ordered : c.args.low ≤ c.args.high + 1 - c.power.result = omega (arith, least, width, c.requires.ordered) in
    let near : c.args.high + 1 - c.power.result ≤ c.args.low + 2 ^ k = omega (arith, most, width) in
    let end : c.args.high + 1 - c.power.result + 2 ^ k ≡ c.args.high + 1 = omega (arith, least, width) in
    subst (IsGreatest row c.args.low (c.args.high + 1))
    (sym (to_z-of_z w128 c.at_level.result (record { sfits = c.at_level.type_inv })))
    (subst (λ (e : ℕ). IsGreatest row c.args.low e c.at_level.result) end
    (c.at_level.ensures row n (2 ^ k) has ordered near))
