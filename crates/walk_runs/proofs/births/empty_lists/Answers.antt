-- Lists that are empty.
use Rattle.std.proofs.Common.{rules, ◌≡◌, ◌++◌, List, [], length, map, ap, ◌∙◌}
use Rattle.walk_runs.specs.Collected.{births_in}
use Rattle.walk_runs.specs.Kept.{KeyedBirth, birth_view}
use Rattle.walk_runs.proofs.Collecting.{births_append}
use Rattle.walk_runs.proofs.births.empty_lists.Goals as goal

pub loop-init : goal.loop-init
loop-init g c =
    let view = birth_view g.K.Key.number in
    (ap (births_in view) c.in_ok-lists.ensures.items, ap length c.in_ok-lists.ensures.items)

pub loop-preserved : goal.loop-preserved
loop-preserved g c =
    let view = birth_view g.K.Key.number in
    let pushed : births_in view c.push.new.self.items ≡ [] =
    ap (births_in view) c.in_ok-push.ensures.items ∙ births_append view c.loop.lists.items c.new.result
    ∙ ap (λ (all : List KeyedBirth). all ++ map view c.new.result.items) c.loop.invariant.0
    ∙ ap (map view) c.new.ensures.items in
    (pushed, search rules)

pub returns-clause-none : goal.returns-clause-none
returns-clause-none g c = c.loop.invariant.0
