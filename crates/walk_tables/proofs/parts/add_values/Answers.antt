-- One number more of a row has its part.
use Rattle.std.proofs.Common.{◌≡◌, inl, inr, ◌<◌, ℕ, ℤ, pos, arith, rules, length, get_or, ap, sym, ◌∙◌, ◌+ℤ◌, ◌*ℤ◌, to_z, of_z, w64}
use Rattle.std.specs.Int.{w128}
use mir.Val.{SFits}
use Rattle.std.proofs.lemmas.Bool.{cases_eq}
use Rattle.std.proofs.lemmas.Int.{to_z-of_z}
use Rattle.def_model.specs.Predicates.{state_at}
use Rattle.walk_tables.specs.Zero.{IsSmall}
use Rattle.walk_tables.proofs.Rows.{set_here, set_there, set_small}
use Rattle.walk_tables.proofs.parts.add_values.Goals as goal

pub loop-n-preserved : goal.loop-n-preserved
loop-n-preserved c =
    let kept = c.loop-n.invariant in
    let row = c.loop-n.row in
    let n = c.loop-n.n in
    let p = c.args.process in
    let lt : n < length row = omega (arith, c.loop-n-test.true, c.loop-n.auto.row) in
    let sum = c.in-Some.sum in
    let is_small : IsSmall sum = c.in-Some.ensures.small in
    let number_is_small : IsSmall (get_or row n (pos 0)) = kept.small n in
    let fits : SFits w64 sum = search rules in
    let number_fits : SFits w64 (get_or row n (pos 0)) = search rules in
    let factor_fits : SFits w128 c.args.factor = c.ranges.factor in
    let value_fits : SFits w64 c.value-value.result = record { sfits = c.value-value.type_inv } in
    let sum_is : sum ≡ get_or row n (pos 0) +ℤ c.args.factor *ℤ c.value-value.result =
    simp to_z-of_z at c.in-Some.ensures.value in
    let is_sum : to_z w64 (of_z w64 sum) ≡ sum = to_z-of_z w64 sum fits in
    let stored : IsSmall (to_z w64 (of_z w64 sum)) = rw is_sum is_small in
    record {
      small = set_small row n (to_z w64 (of_z w64 sum)) lt kept.small stored;
      added = λ counts below.
          elim (cases_eq (get_or counts p 0) n) [
            | inl here ↦ set_here row n (get_or counts p 0) (to_z w64 (of_z w64 sum)) lt here ∙ is_sum ∙ sum_is
                ∙ ap (λ (a : ℤ). a +ℤ c.args.factor *ℤ c.value-value.result)
                (kept.same n (omega arith) ∙ ap (λ (k : ℕ). get_or c.args.row.now k (pos 0)) (sym here))
                ∙ ap (λ (v : ℤ). get_or c.args.row.now (get_or counts p 0) (pos 0) +ℤ c.args.factor *ℤ v)
                (c.value-value.ensures counts here)
                ∙ ap (λ (f : ℤ). get_or c.args.row.now (get_or counts p 0) (pos 0)
                +ℤ f *ℤ state_at c.args.computation.now.initial c.args.computation.now.events counts p c.args.var)
                (sym (to_z-of_z w128 c.args.factor factor_fits))
            | inr there ↦ set_there row n (get_or counts p 0) (to_z w64 (of_z w64 sum)) there
                ∙ kept.added counts (omega (arith, there))
          ];
      same = λ k beyond.
          set_there row n k (to_z w64 (of_z w64 sum)) (λ eq. omega (arith, eq)) ∙ kept.same k (omega arith);
    }
