use Rattle.std.proofs.Common.{rules, ◌+◌, ◌-◌, sym, ap, subst, arith, []}
use Rattle.atomic_table.specs.Table.{Splits}
use Rattle.pd_expand.specs.ClaimRule.{view, Kept}
use Rattle.pd_expand.proofs.RuleSteps.{deals}
use Rattle.pd_expand.proofs.claims.Claims.new.Goals as goal

pub split_seat-seat-requires : goal.split_seat-seat-requires
split_seat-seat-requires c = let key = c.in_ok-table.table.shared.key in let d = c.loop.dealer in
    let e = ap (λ m. m.0) c.loop.invariant.dealer.1 in (
      search rules,
      search rules,
      subst (λ v. Splits (Kept key.blocks key.workers) d.id v (view (v.workers - 1) []) (view 1 [])) (sym e) (deals
          key.blocks key.workers d.id (c.args.workers + 1 - c.loop.counter) (omega arith)),
    )
