-- The row of one process more.
use Rattle.std.proofs.Common.{◌≡◌, ◌+◌, ◌++◌, ◌∷◌, [], ℕ, List, get_or, length, sym, ap, ◌∙◌, subst, arith}
use Rattle.std.proofs.lemmas.List.{length_push}
use Rattle.std.specs.Global.{Global}
use Rattle.std.specs.Prelude.{Vec}
use Rattle.wide_flow.specs.Rows.{IsRow, row_of}
use Rattle.wide_flow.proofs.Lists.{push_at}
use Rattle.wide_flow.proofs.RowSteps.{row_is}
use Rattle.wide_flow.proofs.rows.rows.Goals as goal

pub loop-process-preserved : goal.loop-process-preserved
loop-process-preserved c =
    let steps = c.args.steps.now in
    let rows = c.loop-process.rows.items in
    let row = c.in_ok-payers_of.field-0 in
    let count : length rows ≡ c.loop-process.process = c.loop-process.invariant.count in
    record {
      count =
          ap (λ (xs : List (Vec ℕ Global)). length xs) c.in_ok-push.ensures.items
          ∙ (length_push rows row ∙ ap (λ (n : ℕ). n + 1) count);
      each = λ p lt.
          let all : IsRow steps p (get_or (rows ++ row ∷ []) p row).items =
          push_at (λ q (v : Vec ℕ Global). IsRow steps q v.items) rows row row
          (λ i low.
          subst (λ (r : List ℕ). IsRow steps i r) (row_is rows i row low)
          (c.loop-process.invariant.each i (omega (arith, low, count))))
          (subst (λ (n : ℕ). IsRow steps n row.items) (sym count) c.in_ok-payers_of.ensures) p
          (omega (arith, lt, count, length_push rows row)) in
          subst (λ (r : List ℕ). IsRow steps p r)
          (sym (ap (λ (xs : List (Vec ℕ Global)). row_of xs p) c.in_ok-push.ensures.items
          ∙ row_is (rows ++ row ∷ []) p row (omega (arith, lt, count, length_push rows row)))) all;
    }
