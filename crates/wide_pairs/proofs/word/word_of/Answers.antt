-- One number more.
use Rattle.std.proofs.Common.{◌≡◌, ℤ, ℕ, ◌+◌, ◌-◌, ◌<◌, ◌≤◌, length, ap, sym, ◌∙◌, subst, arith}
use Rattle.std.specs.Int.{w128}
use mir.Val.{to_z, of_z}
use Rattle.walk_keys.specs.Words.{has_bit}
use Rattle.def_model.specs.Predicates.{compares}
use Rattle.pd_pred.specs.Trees.{comparison_view}
use Rattle.wide_pairs.specs.Parts.{number_at}
use Rattle.wide_pairs.proofs.Bits.{number_before, number_last, one_below}
use Rattle.wide_pairs.proofs.word.word_of.Goals as goal

pub loop-last-preserved : goal.loop-last-preserved
loop-last-preserved c =
    let number : ℤ = to_z w128 (of_z w128 c.args.number) in
    let numbers = c.args.numbers.now in
    let before = c.in-Some.before.now in
    let rest = c.loop-last.rest.now in
    let last = c.in-Some.last.now in
    let cases = c.in-Some.ensures.cases in
    let longer : length before + 1 ≡ length rest = cases.1 in
    let within : length rest ≤ length numbers = c.loop-last.invariant.within in
    let one_less : length rest - 1 ≡ length before = omega (arith, longer) in
    let here : number_at numbers (length before) ≡ last =
    sym (c.loop-last.invariant.rest (length before) (omega (arith, longer))) ∙ number_last rest before last cases in
    record {
      within = omega (arith, longer, within);
      rest = λ k lt.
          number_before rest before last cases k lt
          ∙ c.loop-last.invariant.rest k (omega (arith, lt, longer));
      bits = subst (λ (m : ℕ). (d : ℕ) → m + d < length numbers → has_bit c.below-word.result d
          ≡ compares (comparison_view c.args.comparison) (number_at numbers (m + d)) number) one_less
          (one_below (λ k. compares (comparison_view c.args.comparison) (number_at numbers k) number)
          c.loop-last.word c.below-word.result (length numbers) (length rest) (omega (arith, longer)) within c.requires
          (c.below-word.ensures.first
          ∙ (c.is_related.ensures
          ∙ (ap (λ (x : ℤ). compares (comparison_view c.args.comparison) x number) (sym here)
          ∙ ap (λ (m : ℕ). compares (comparison_view c.args.comparison) (number_at numbers m) number) (sym one_less))))
          c.below-word.ensures.moved c.loop-last.invariant.bits);
    }
