-- One setting more.
use Rattle.std.proofs.Common.{ℕ, ℤ, ◌+◌, List, length, drop, ap, sym, subst, ◌∙◌}
use Rattle.std.proofs.lemmas.List.{length-set}
use Rattle.pd_clock.specs.Histories.{AreVars, row_after}
use Rattle.pd_clock.proofs.HistorySteps.{row_more, var_there}
use Rattle.pd_clock.proofs.history.apply_settings.Goals as goal

pub put-requires : goal.put-requires
put-requires c =
    var_there (length c.loop-i.row.items) c.args.settings.now c.loop-i.i c.get.result
    (subst (λ (n : ℕ). AreVars n c.args.settings.now) (sym c.loop-i.invariant.width) c.requires) c.get.ensures

pub loop-i-preserved : goal.loop-i-preserved
loop-i-preserved c = record {
  width =
      ap (λ (r : List ℤ). length r) c.put.ensures
      ∙ (length-set c.loop-i.row.items c.get.result.0 c.get.result.1 ∙ c.loop-i.invariant.width);
  so_far =
      ap (λ (r : List ℤ). row_after r (drop (c.loop-i.i + 1) c.args.settings.now)) c.put.ensures
      ∙ (row_more c.loop-i.row.items c.args.settings.now c.loop-i.i c.get.result c.get.ensures
      ∙ c.loop-i.invariant.so_far);
}
