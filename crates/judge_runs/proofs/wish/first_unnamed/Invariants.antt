-- The wishes so far are for predicates that are there: the first name is that of the wishes that are left.
use Rattle.std.proofs.Common.{◌≡◌, drop, map}
use Rattle.pd_spec.specs.Named.{named_view}
use Rattle.judge_runs.specs.Views.{wishes_view}
use Rattle.judge_runs.specs.Wishes.{first_unnamed, names_of}
use Rattle.judge_runs.proofs.wish.first_unnamed.Given as goal

abbrev pub invariant-loop-wish : goal.invariant-loop-wish
invariant-loop-wish l =
    first_unnamed (names_of (map named_view l.predicates)) (wishes_view l.wishes)
    ≡ first_unnamed (names_of (map named_view l.predicates)) (wishes_view (drop l.wish-index l.wishes))
