-- The wishes so far.
use Rattle.std.proofs.Common.{◌≡◌, map, take}
use Rattle.judge_runs.specs.Views.{wish_view}
use Rattle.judge_runs.specs.declared.wish.Wish.{Wish}
use Rattle.out_page.specs.Views as shown
use Rattle.app_explore.specs.Explorations.{shown_wish}
use Rattle.app_explore.proofs.page_extras.shown_wishes.Given as goal

abbrev pub invariant-loop-wish : goal.invariant-loop-wish
invariant-loop-wish l =
    map shown.wish_view l.found.items
    ≡ map (λ (wish : Wish). shown_wish (wish_view wish)) (take l.wish-index l.wishes)
