-- One name more.
use Rattle.std.proofs.Common.{List, ℕ, [], ◌∷◌, ◌++◌, sym, ap, ◌∙◌}
use Rattle.std.specs.Prelude.{string_bytes}
use Rattle.std.proofs.lemmas.List.{map-append}
use Rattle.def_format.specs.Names.{name_of_process}
use Rattle.pd_report.specs.Steps.{names_view}
use Rattle.pd_engine.proofs.PathNames.{one_more_name}
use Rattle.pd_engine.proofs.answers.all_names.Goals as goal

pub loop-p-preserved : goal.loop-p-preserved
loop-p-preserved c =
    let names = c.args.names.now in
    let p = c.loop-p.p in
    ap names_view c.in_ok-push.ensures.items
    ∙ map-append string_bytes c.loop-p.all.items (c.in_ok-name_of.field-0 ∷ [])
    ∙ ap (λ (name : List ℕ). names_view c.loop-p.all.items ++ name ∷ []) c.in_ok-name_of.ensures
    ∙ ap (λ (before : List (List ℕ)). before ++ name_of_process names p ∷ []) c.loop-p.invariant
    ∙ sym (one_more_name names p (rw c.processes-p-end.ensures at c.loop-p-test.true))
