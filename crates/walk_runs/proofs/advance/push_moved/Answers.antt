-- The moved run is pushed, and its births.
use Rattle.walk_runs.specs.KeptRuns.{moved}
use Rattle.walk_runs.proofs.Pushing.{moved_ends, births_of_moved}
use Rattle.walk_runs.proofs.advance.push_moved.Goals as goal

pub add_births_of-requires-clause-least : goal.add_births_of-requires-clause-least
add_births_of-requires-clause-least g c =
    (moved_ends c.args.steps.now c.limits.ensures.walkable.no_cycle c.args.run.now c.in-Some.next.run c.in-Some.next.top
    c.in-Some.next.low c.requires.run c.in-Some.ensures.some).least

pub add_births_of-requires-clause-greatest : goal.add_births_of-requires-clause-greatest
add_births_of-requires-clause-greatest g c =
    (moved_ends c.args.steps.now c.limits.ensures.walkable.no_cycle c.args.run.now c.in-Some.next.run c.in-Some.next.top
    c.in-Some.next.low c.requires.run c.in-Some.ensures.some).greatest

pub returns-in_ok-push-in-Some : goal.returns-in_ok-push-in-Some
returns-in_ok-push-in-Some g c =
    moved c.in-Some.next.run c.in-Some.next.top c.in-Some.next.low c.in-Some.ensures.some
    c.in_ok-push-in-Some.ensures.items
    (births_of_moved c.args.steps.now c.limits.ensures.walkable.no_cycle c.limits.ensures.two c.args.run.now
    c.in-Some.next.run c.in-Some.next.top c.in-Some.next.low c.requires.run c.in-Some.ensures.some
    c.args.born.now c.add_births_of.new.born c.in_ok-add_births_of-in-Some.ensures)
