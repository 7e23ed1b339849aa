-- The counts of a cut by the key of its prefix.
use Rattle.std.proofs.Common.{◌≡◌, length, get_or, sym, ap, ◌∙◌, arith}
use Rattle.walk_keys.specs.Keys.{digits}
use Rattle.walk_keys.proofs.Keys.{length-digits}
use Rattle.walk_runs.specs.Kept.{KeyedCut}
use Rattle.walk_runs.proofs.RunCuts.{prefix_at}
use Rattle.walk_runs.proofs.PointFacts.{count_x, count_y}
use Rattle.walk_runs.proofs.point.count.Goals as goal

pub returns-then-q-prefix : goal.returns-then-q-prefix
returns-then-q-prefix g c =
    let many : length (digits c.args.prefix c.args.point.now.key) ≡ c.args.prefix =
    length-digits c.args.prefix c.args.point.now.key in
    c.digit.ensures
    ∙ ap (λ (point : KeyedCut). get_or (digits c.args.prefix point.key) c.args.q 0) c.point.view_is
    ∙ sym (prefix_at (digits c.args.prefix c.args.point.now.key) c.args.point.now.x c.args.point.now.y c.args.q
    (omega arith))

pub returns-then-q-prefix-2 : goal.returns-then-q-prefix-2
returns-then-q-prefix-2 g c =
    c.from.ensures ∙ ap (λ (point : KeyedCut). point.x) c.point.view_is
    ∙ sym (count_x c.args.prefix c.args.point.now c.args.q (omega arith))

pub returns-else-q-prefix-2 : goal.returns-else-q-prefix-2
returns-else-q-prefix-2 g c =
    c.from-else-q-prefix-2.ensures ∙ ap (λ (point : KeyedCut). point.y) c.point.view_is
    ∙ sym (count_y c.args.prefix c.args.point.now c.args.q (omega arith))
