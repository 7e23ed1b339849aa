-- A wish for each name so far.
use Rattle.std.proofs.Common.{◌≡◌, ◌++◌, take}
use Rattle.app_arguments.specs.Views.{names_view}
use Rattle.app_arguments.specs.Wishes.{wishes_for}
use Rattle.judge_runs.specs.Views.{wish_kind_view, wishes_view}
use Rattle.app_arguments.proofs.wishes.push_wishes.Given as goal

abbrev pub invariant-loop-name : goal.invariant-loop-name
invariant-loop-name l = wishes_view l.wishes.items
    ≡ wishes_view l.initial.wishes.items
    ++ wishes_for (wish_kind_view l.kind) (names_view (take l.name-index l.names))
