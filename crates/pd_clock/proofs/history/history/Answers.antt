-- One event more.
use Rattle.std.proofs.Common.{◌≡◌, ℕ, ℤ, ◌+◌, ◌++◌, List, length, drop, ap, append_assoc, sym, subst, ◌∙◌}
use Rattle.pd_clock.specs.Histories.{AreVars, row_after, rows_after}
use Rattle.pd_clock.proofs.HistorySteps.{rows_more, vars_there}
use Rattle.pd_clock.proofs.Rows.{length-row_after}
use Rattle.pd_clock.proofs.history.history.Goals as goal

pub apply_settings-requires : goal.apply_settings-requires
apply_settings-requires c =
    subst (λ (n : ℕ). AreVars n c.settings.result) (sym c.loop-k.invariant.width)
    (vars_there (length c.args.start.now) c.args.events.now c.loop-k.k c.settings.result c.requires c.settings.ensures)

pub loop-k-preserved : goal.loop-k-preserved
loop-k-preserved c =
    let row = c.loop-k.row.items in
    let next = row_after row c.settings.result in
    let later = drop (c.loop-k.k + 1) c.args.events.now in
    let made : c.apply_settings.new.row.items ≡ next = c.apply_settings.ensures in
    let added : c.extend-in-loop-k.new.self ≡ c.loop-k.values ++ next =
    c.in_ok-extend-2.ensures.ok
    ∙ ap (λ (xs : List ℤ). c.loop-k.values ++ xs) (c.deref.ensures.value ∙ made) in
    record {
      width = ap (λ (xs : List ℤ). length xs) made
          ∙ (length-row_after row c.settings.result ∙ c.loop-k.invariant.width);
      so_far =
          (λ i. added i ++ rows_after (made i) later)
          ∙ (append_assoc c.loop-k.values next (rows_after next later)
          ∙ (ap (λ (xs : List ℤ). c.loop-k.values ++ xs)
          (sym (rows_more row c.args.events.now c.loop-k.k c.settings.result c.settings.ensures))
          ∙ c.loop-k.invariant.so_far));
    }
