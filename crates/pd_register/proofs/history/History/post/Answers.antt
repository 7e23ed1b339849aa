-- The step is allowed, and the history with it is legal and has the rows.
use Rattle.std.proofs.Common.{◌∙◌, ap, sym}
use Rattle.def_format.specs.Histories as histories
use Rattle.def_format.specs.Histories.{fresh_row, row_after}
use Rattle.pd_register.specs.Views.{row_view, step_view}
use Rattle.std.proofs.lemmas.List.{get_or-map}
use Rattle.pd_register.proofs.ViewFacts.{history_push}
use Rattle.pd_register.proofs.history.History.post.Goals as goal

pub invariant_of-self-2 : goal.invariant_of-self-2
invariant_of-self-2 c =
    let old = c.args.self.now in
    let at = c.args.stream in
    let rows = old.rows.items in
    let found = c.index.result.now in
    let here = get_or-map row_view rows at found fresh_row c.requires.stream ∙ ap row_view (sym c.index.ensures) in
    let made = c.after.ensures ∙ ap (λ (r : histories.Row). row_after r (step_view c.args.step)) (sym here) in
    let t = history_push rows old.posts.items c.push.new.self.items at c.args.step c.after.result old.shown old.legal
    c.requires.stream c.requires.allowed c.in_ok-push.ensures.items made in
    record { shown = t.0; legal = t.1 }
