-- One more variable is set, or it isn't seen.
use Rattle.std.proofs.Common.{◌+◌, ℕ, ℤ, refl, sym, ◌∙◌, subst, to_z, of_z, w64}
use Rattle.std.specs.Prelude.{Vec}
use Rattle.std.specs.Global.{Global}
use Rattle.std.proofs.lemmas.Int.{to_z-of_z}
use Rattle.def_long.specs.Views.{value_after}
use Rattle.judge_reduced.specs.SettingLists.{AreSettings}
use Rattle.judge_reduced.proofs.SettingSteps.{settings_more, settings_same}
use Rattle.judge_reduced.proofs.settings.settings_after.Goals as goal
use Rattle.judge_reduced.proofs.settings.settings_after.Goals.{then-is_seen+in_ok-push, else-is_seen}

pub loop-v-preserved : goal.loop-v-preserved
loop-v-preserved c =
    let worth = value_after c.args.computation.now c.args.n c.args.p in
    elim c.if-is_seen.branch [
      | then-is_seen+in_ok-push w ↦
          subst (λ (sets : Vec (ℕ × ℤ) Global). AreSettings worth c.args.vars.now (c.loop-v.v + 1) sets.items)
          (sym w.sets-is)
          (subst (AreSettings worth c.args.vars.now (c.loop-v.v + 1)) (sym w.in_ok-push.ensures.items)
          (settings_more worth c.args.vars.now c.loop-v.v c.loop-v.sets.items
          (to_z w64 (of_z w64 w.value_after.result))
          (to_z-of_z w64 w.value_after.result (record { sfits = w.value_after.type_inv }) ∙ w.value_after.ensures)
          c.loop-v.invariant))
      | else-is_seen w ↦
          subst (λ (sets : Vec (ℕ × ℤ) Global). AreSettings worth c.args.vars.now (c.loop-v.v + 1) sets.items)
          (sym w.sets-is)
          (settings_same worth c.args.vars.now c.loop-v.v c.loop-v.sets.items (w.if-is_seen.ensures refl)
          c.loop-v.invariant)
    ]
