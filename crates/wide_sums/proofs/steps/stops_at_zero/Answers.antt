-- The excess at the empty cut leaves one of both ways.
use mir.Syntax.{w128}
use Rattle.std.proofs.Common.{◌≡◌, sym, subst, ◌∙◌, ℤ, pos}
use Rattle.std.proofs.lemmas.Int.{to_z-of_z}
use Rattle.std.specs.Global.{Global}
use Rattle.std.specs.Prelude.{List, Vec, int_lt, true}
use Rattle.wide_sums.specs.Values.{IsDifference}
use Rattle.wide_sums.specs.Literals.{literal_view}
use Rattle.wide_sums.proofs.SmallSteps.{from_above, from_below, is_less}
use Rattle.wide_sums.proofs.steps.stops_at_zero.Goals as goal

pub returns-then-first-lt0 : goal.returns-then-first-lt0
returns-then-first-lt0 c =
    let r = c.args.computation.now in
    let l = literal_view c.args._literal.now in
    let is = to_z-of_z w128 c.args.first c.ranges.first ∙ c.requires.first in
    from_below r l c.rises_by_one.result
    (is_less _ (pos 0) (subst (λ (x : ℤ). int_lt x (pos 0) ≡ true) is c.if-first-lt0.true))
    (c.rises_by_one.ensures l.left l.right
    (subst (λ (rows : List (Vec ℤ Global)). IsDifference r l.left l.right rows) (sym c.deref.ensures.value)
    c.requires.excess.above))

pub returns-then-first-gt0 : goal.returns-then-first-gt0
returns-then-first-gt0 c =
    let r = c.args.computation.now in
    let l = literal_view c.args._literal.now in
    let is = to_z-of_z w128 c.args.first c.ranges.first ∙ c.requires.first in
    from_above r l c.rises_by_one-then-first-gt0.result
    (is_less (pos 0) _ (subst (λ (x : ℤ). int_lt (pos 0) x ≡ true) is c.if-first-gt0.true))
    (c.rises_by_one-then-first-gt0.ensures l.right l.left
    (subst (λ (rows : List (Vec ℤ Global)). IsDifference r l.right l.left rows)
    (sym c.deref-then-first-gt0.ensures.value) c.requires.excess.below))
