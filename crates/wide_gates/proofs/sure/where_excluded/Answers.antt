-- One truth more.
use Rattle.std.proofs.Common.{rules, ◌≡◌, ◌↔◌, ◌∷◌, [], ◌++◌, IsTrue, Bool, false, get_or, length, pos, ap, arith}
use Rattle.std.proofs.lemmas.List.{length_push}
use Rattle.pd_pred.specs.Trees.{comparison_view}
use Rattle.wide_gates.specs.Excluded.{ExcludedBy}
use Rattle.wide_gates.proofs.Pushes.{each_push}
use Rattle.wide_gates.proofs.sure.where_excluded.Goals as goal

pub loop-k-preserved : goal.loop-k-preserved
loop-k-preserved c =
    let old = c.loop-k.flags.items in
    let flag : Bool = c.is_excluded.result in
    let many : length c.push.new.self.items ≡ length (old ++ flag ∷ []) = ap length c.in_ok-push.ensures.items in
    record {
      many = omega (arith, many, length_push old flag, c.loop-k.invariant.many);
      each =
          each_push
          (λ j (b : Bool). IsTrue b ↔ ExcludedBy (comparison_view c.args.comparison)
          (get_or c.args.above.now j (pos 0)) (get_or c.args.below.now j (pos 0))) old c.push.new.self.items flag
          false c.loop-k.k c.loop-k.invariant.many c.in_ok-push.ensures.items c.loop-k.invariant.each (search rules);
    }
