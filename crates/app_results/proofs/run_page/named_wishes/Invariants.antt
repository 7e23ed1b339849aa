-- The wishes so far.
use Rattle.std.proofs.Common.{◌≡◌, take}
use Rattle.judge_runs.specs.Views.{wishes_view}
use Rattle.app_results.specs.RunPages.{named_wishes}
use Rattle.app_results.proofs.run_page.named_wishes.Given as goal

abbrev pub invariant-loop-wish : goal.invariant-loop-wish
invariant-loop-wish l = wishes_view l.named.items ≡ named_wishes (wishes_view (take l.wish-index l.wishes))
