-- One comparison more, which stands last.
use Rattle.std.proofs.Common.{◌∙◌, List, ap}
use Rattle.walk_tables.specs.Choices.{choices_hold}
use Rattle.walk_tables.specs.Series.{parts_hold}
use Rattle.walk_tables.specs.Tables.{linear_holds}
use Rattle.walk_tables.specs.Zero.{joined}
use Rattle.walk_tables.specs.declared.linear.Linear.{Linear}
use Rattle.walk_tables.proofs.Chains.{all_push, joined_swap}
use Rattle.walk_tables.proofs.series.Series.with_part.Goals as goal

pub returns : goal.returns
returns c prefix x y =
    let series = c.args.self in
    let first = c.args.first in
    let choices = choices_hold series.is_and series.choices.items prefix x y in
    ap (λ (parts : List Linear). joined series.is_and choices (parts_hold series.is_and parts prefix x y))
    c.in_ok-push.ensures.items
    ∙ ap (joined series.is_and choices)
    (all_push series.is_and (λ (l : Linear). linear_holds l prefix x y) series.parts.items first)
    ∙ joined_swap series.is_and choices (linear_holds first prefix x y)
    (parts_hold series.is_and series.parts.items prefix x y)
