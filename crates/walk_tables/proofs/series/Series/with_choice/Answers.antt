-- The comparison and a part with its sum are a choice, which stands last.
use Rattle.std.proofs.Common.{◌≡◌, ◌∙◌, ◌++◌, ◌∷◌, [], List, Bool, ap, sym}
use Rattle.std.specs.List.{remove}
use Rattle.walk_tables.specs.Choices.{choice_holds, choices_hold}
use Rattle.walk_tables.specs.Series.{parts_hold}
use Rattle.walk_tables.specs.Tables.{linear_holds}
use Rattle.walk_tables.specs.Zero.{joined}
use Rattle.walk_tables.specs.declared.choice.Choice.{Choice}
use Rattle.walk_tables.specs.declared.linear.Linear.{Linear}
use Rattle.walk_tables.proofs.Chains.{all_push, all_remove, joined_assoc, joined_swap}
use Rattle.walk_tables.proofs.series.Series.with_choice.Goals as goal

pub returns : goal.returns
returns c prefix x y =
    let series = c.args.self in
    let is_and = series.is_and in
    let parts = series.parts.items in
    let holds = λ (part : Linear). linear_holds part prefix x y in
    let choices = choices_hold is_and series.choices.items prefix x y in
    let first = linear_holds c.args.first.now prefix x y in
    let taken = c.remove-part.result in
    let rest = remove parts c.args.i in
    let others = parts_hold is_and rest prefix x y in
    let kept : parts_hold is_and parts prefix x y ≡ joined is_and (holds taken) others =
    all_remove is_and holds parts c.args.i taken c.requires.within
    ∙ ap (λ (part : Linear). joined is_and (holds part) others) (sym c.remove-part.ensures.value) in
    ap (λ (items : List Choice). joined is_and (choices_hold is_and items prefix x y) (parts_hold is_and
    c.remove-part.new.self.items prefix x y)) c.in_ok-push.ensures.items
    ∙ ap (λ (items : List Linear). joined is_and (choices_hold is_and (series.choices.items ++ c.in_ok-choice.choice
    ∷ [])
    prefix x y) (parts_hold is_and items prefix x y)) c.remove-part.ensures.items
    ∙ ap (λ (t : Bool). joined is_and t others)
    (all_push is_and (λ (choice : Choice). choice_holds choice prefix x y) series.choices.items c.in_ok-choice.choice
    ∙ ap (λ (t : Bool). joined is_and t choices) (c.in_ok-choice.ensures prefix x y))
    ∙ joined_assoc is_and (joined is_and first (holds taken)) choices others
    ∙ joined_assoc is_and first (holds taken) (joined is_and choices others)
    ∙ ap (joined is_and first)
    (joined_swap is_and (holds taken) choices others ∙ ap (joined is_and choices) (sym kept))
