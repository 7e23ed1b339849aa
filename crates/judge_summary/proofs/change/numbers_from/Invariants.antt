-- The numbers so far.
use Rattle.std.proofs.Common.{◌≡◌, take}
use Rattle.std.specs.Prelude.{Some}
use Rattle.judge_summary.specs.Views.{numbered_view}
use Rattle.judge_summary.proofs.Gathered.{gathered, number_of, seen}
use Rattle.judge_summary.proofs.change.numbers_from.Given as goal

abbrev pub invariant-loop-name : goal.invariant-loop-name
invariant-loop-name l =
    gathered (λ entry. number_of (seen entry)) (take l.name-index l.entries) ≡ Some (numbered_view l.numbers.items)
