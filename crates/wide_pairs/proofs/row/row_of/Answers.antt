-- The row has the number of one count more.
use Rattle.std.proofs.Common.{◌≡◌, ◌+◌, ℕ, ℤ, [], ◌∷◌, ◌++◌, length, length-append, sym, ap, ◌∙◌, subst, arith}
use mir.Val.{SFits}
use Rattle.std.specs.Int.{w128}
use Rattle.std.proofs.lemmas.Int.{to_z-of_z}
use Rattle.pd_pred.specs.Trees.{sum_view}
use Rattle.wide_pairs.specs.Parts.{part_of_difference}
use Rattle.wide_pairs.proofs.Numbers.{each_more, small_more}
use Rattle.wide_pairs.proofs.row.row_of.Goals as goal

pub loop-count-preserved : goal.loop-count-preserved
loop-count-preserved c =
    let row = c.loop-count.row.items in
    let number = c.difference-number.result in
    let value : ℕ → ℤ =
    λ n. part_of_difference c.args.computation.now c.args.process n c.args.numbers (sum_view c.args.left.now)
    (sum_view c.args.right.now) in
    let count : length row ≡ c.loop-count.count = c.loop-count.invariant.count in
    let fits : SFits w128 number = record { sfits = c.difference-number.type_inv } in
    let pushed : c.push.new.self.items ≡ row ++ number ∷ [] =
    c.in_ok-push.ensures.items ∙ ap (λ (x : ℤ). row ++ x ∷ []) (to_z-of_z w128 number fits) in
    record {
      count = ap length pushed ∙ (length-append row (number ∷ []) ∙ ap (λ (n : ℕ). n + 1) count);
      small = small_more row c.push.new.self.items number pushed c.loop-count.invariant.small
          c.difference-number.ensures.small;
      adds = λ n lt.
          each_more (λ k number. number ≡ value k) row c.push.new.self.items number pushed
          (λ k low. c.loop-count.invariant.adds k (omega (arith, count)))
          (subst (λ (k : ℕ). number ≡ value k) (sym count) c.difference-number.ensures.value) n
          (omega (arith, lt, count));
    }
