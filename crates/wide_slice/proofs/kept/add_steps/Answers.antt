-- One point more is looked at.
use Rattle.std.proofs.Common.{◌≡◌, ◌+◌, ◌<◌, List, [], arith, ℤ, refl, sym, ap, ◌∙◌, subst, to_z, of_z}
use Rattle.std.proofs.lemmas.Int.{to_z-of_z}
use Rattle.std.specs.Global.{Global}
use Rattle.std.specs.Int.{w128}
use Rattle.std.specs.Prelude.{Vec, unsigned_abs}
use Rattle.wide_flow.specs.Steps.{size_limit}
use Rattle.wide_flow.specs.declared.step.Step.{Step}
use Rattle.wide_slice.specs.declared.points.Point.{Point}
use Rattle.wide_slice.specs.Values.{number_at}
use Rattle.wide_slice.specs.Points.{count_at, flag, past_at}
use Rattle.wide_slice.proofs.Lists.{view_is}
use Rattle.wide_slice.proofs.Parts.{IsAddedUpTo, added_more, added_skip}
use Rattle.wide_slice.proofs.kept.add_steps.Goals as goal
use Rattle.wide_slice.proofs.kept.add_steps.Goals.{then-is_kept+in_ok-push, else-is_kept}

pub is_kept-requires : goal.is_kept-requires
is_kept-requires c =
    let points = c.args.points.now in
    let point = c.index-points-k.result in
    omega (
      arith,
      c.requires.within c.loop-k.k c.loop-k-test.true,
      view_is (λ (x : Point). x.count) points point 0 c.loop-k.k c.loop-k-test.true c.index-points-k.is,
    )

pub loop-k-preserved : goal.loop-k-preserved
loop-k-preserved c =
    let points = c.args.points.now in
    let flags = c.args.asked.now in
    let v = number_at c.args.numbers.now in
    let p = c.args.process in
    let low = c.args.least in
    let k = c.loop-k.k in
    let old = c.args.steps.now.items in
    let steps = c.loop-k.steps.items in
    let point = c.index-points-k.result in
    let number = to_z w128 (of_z w128 c.number_of-number.result) in
    let high = to_z w128 c.loop-k.high-bits in
    let count_is : count_at points k ≡ point.count =
    view_is (λ (x : Point). x.count) points point 0 k c.loop-k-test.true c.index-points-k.is in
    let past_is : past_at points k ≡ point.past =
    view_is (λ (x : Point). x.past) points point [] k c.loop-k-test.true c.index-points-k.is in
    let number_is : number ≡ v (count_at points k) =
    to_z-of_z w128 c.number_of-number.result (record { sfits = c.number_of-number.type_inv })
    ∙ (c.number_of-number.ensures ∙ ap v (sym count_is)) in
    let so_far : IsAddedUpTo points flags v p low k old steps high = c.loop-k.invariant in
    elim c.if-is_kept.branch [
      | then-is_kept+in_ok-push w ↦
          let step : Step = record {
            process = p;
            count = point.count;
            past = w.counts.result;
            weight = to_z w128 (of_z w128 w.rise-weight.result);
            key = 0;
          } in
          let weight_is : to_z w128 (of_z w128 w.rise-weight.result) ≡ w.rise-weight.result =
          to_z-of_z w128 w.rise-weight.result (record { sfits = w.rise-weight.type_inv }) in
          subst (λ (s : List Step × ℤ). IsAddedUpTo points flags v p low (k + 1) old s.0 s.1)
          (λ i. (
            sym (ap (λ (x : Vec Step Global). x.items) w.steps-is ∙ w.in_ok-push.ensures.items) i,
            sym w.high-is i,
          ))
          (added_more points flags v p low c.requires.ordered old k c.loop-k-test.true steps high
          so_far number number_is step refl (sym count_is) (w.counts.ensures ∙ sym past_is)
          (weight_is ∙ w.rise-weight.ensures.is)
          (subst (λ (z : ℤ). unsigned_abs z < size_limit) (sym weight_is) w.rise-weight.ensures.small))
      | else-is_kept w ↦
          subst (λ (s : List Step × ℤ). IsAddedUpTo points flags v p low (k + 1) old s.0 s.1)
          (λ i. (sym (ap (λ (x : Vec Step Global). x.items) w.steps-is) i, sym w.high-is i))
          (added_skip points flags v p low c.requires.ordered old k c.loop-k-test.true steps high
          so_far number number_is (c.is_kept.ensures.high w.if-is_kept.false)
          (ap (flag flags) count_is ∙ c.is_kept.ensures.asked w.if-is_kept.false))
    ]
