-- All of them in the end.
use Rattle.std.proofs.Common.{◌∙◌, List, ap, arith, map}
use Rattle.std.proofs.lemmas.List.{take_all}
use Rattle.judge_runs.specs.Views.{wish_view}
use Rattle.judge_runs.specs.declared.wish.Wish.{Wish}
use Rattle.app_explore.specs.Explorations.{shown_wish}
use Rattle.app_explore.proofs.page_extras.shown_wishes.Goals as goal

pub returns : goal.returns
returns c =
    c.loop-wish.invariant
    ∙ ap (λ (wishes : List Wish). map (λ (wish : Wish). shown_wish (wish_view wish)) wishes)
    (take_all c.loop-wish.wish-index c.args.wishes.now (omega arith))
