-- One step more is looked at.
use Rattle.std.proofs.Common.{◌+◌, ℕ, List, sym, ap, ◌∙◌, subst}
use Rattle.std.proofs.lemmas.Bool.{iff_false}
use Rattle.std.specs.Global.{Global}
use Rattle.std.specs.Prelude.{Vec}
use Rattle.wide_flow.specs.Rows.{IsRowUpTo}
use Rattle.wide_flow.proofs.RowSteps.{row_more, row_skip}
use Rattle.wide_flow.proofs.rows.payers_of.Goals as goal
use Rattle.wide_flow.proofs.rows.payers_of.Goals.{then-is_payer+in_ok-push, else-is_payer}

pub loop-i-preserved : goal.loop-i-preserved
loop-i-preserved c =
    let steps = c.args.steps.now in
    let i = c.loop-i.i in
    let p = c.args.process in
    elim c.if-is_payer.branch [
      | then-is_payer+in_ok-push w ↦
          subst (λ (row : List ℕ). IsRowUpTo steps (i + 1) p row)
          (sym (ap (λ (v : Vec ℕ Global). v.items) w.row-is ∙ w.in_ok-push.ensures.items))
          (row_more c.requires.0 steps i p c.loop-i.row.items c.requires.1 c.loop-i.invariant
          (c.is_payer.ensures.0 w.if-is_payer.true))
      | else-is_payer w ↦
          subst (λ (v : Vec ℕ Global). IsRowUpTo steps (i + 1) p v.items) (sym w.row-is)
          (row_skip steps i p c.loop-i.row.items c.loop-i.invariant (iff_false c.is_payer.ensures w.if-is_payer.false))
    ]
