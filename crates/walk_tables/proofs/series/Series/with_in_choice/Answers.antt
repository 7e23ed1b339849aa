-- The choice that takes the comparison stands last.
use Rattle.std.proofs.Common.{◌≡◌, ◌∙◌, ◌++◌, ◌∷◌, [], List, Bool, ap, sym}
use Rattle.std.specs.List.{remove}
use Rattle.walk_tables.specs.Choices.{choice_holds, choices_hold}
use Rattle.walk_tables.specs.Series.{parts_hold}
use Rattle.walk_tables.specs.Tables.{linear_holds}
use Rattle.walk_tables.specs.Zero.{joined}
use Rattle.walk_tables.specs.declared.choice.Choice.{Choice}
use Rattle.walk_tables.proofs.Chains.{all_push, all_remove, joined_assoc}
use Rattle.walk_tables.proofs.series.Series.with_in_choice.Goals as goal

pub returns : goal.returns
returns c prefix x y =
    let series = c.args.self in
    let is_and = series.is_and in
    let choices = series.choices.items in
    let holds = λ (choice : Choice). choice_holds choice prefix x y in
    let parts = parts_hold is_and series.parts.items prefix x y in
    let first = linear_holds c.args.first.now prefix x y in
    let taken = c.remove-choice.result in
    let others = choices_hold is_and (remove choices c.args.i) prefix x y in
    let more = c.in_ok-choice.choice in
    let way : taken.is_and ≡ is_and = ap (λ (choice : Choice). choice.is_and) c.remove-choice.ensures.value
    ∙ c.requires.way taken in
    let kept : choices_hold is_and choices prefix x y ≡ joined is_and (holds taken) others =
    all_remove is_and holds choices c.args.i taken c.requires.within
    ∙ ap (λ (choice : Choice). joined is_and (holds choice) others) (sym c.remove-choice.ensures.value) in
    ap (λ (items : List Choice). joined is_and (choices_hold is_and items prefix x y) parts)
    (c.in_ok-push.ensures.items ∙ ap (λ (items : List Choice). items ++ more ∷ []) c.remove-choice.ensures.items)
    ∙ ap (λ (t : Bool). joined is_and t parts)
    (all_push is_and holds (remove choices c.args.i) more
    ∙ ap (λ (t : Bool). joined is_and t others)
    (c.in_ok-choice.ensures prefix x y ∙ ap (λ (way : Bool). joined way first (holds taken)) way)
    ∙ joined_assoc is_and first (holds taken) others
    ∙ ap (joined is_and first) (sym kept))
    ∙ joined_assoc is_and first (choices_hold is_and choices prefix x y) parts
