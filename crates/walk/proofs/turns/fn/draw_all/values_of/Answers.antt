-- What is known of the predicate that is drawn stands in its place.
use Rattle.std.proofs.Common.{IfOk, arith, get_or, sym, ◌∙◌, subst}
use Rattle.std.proofs.lemmas.List.{get_or_default}
use Rattle.walk.specs.Stages.{OneStands}
use Rattle.walk.specs.Turns.{IsDrawn}
use Rattle.walk.specs.declared.stage.Stage.{Stage}
use Rattle.walk.specs.declared.stage.Stage.TheVariants.{Open}
use Rattle.walk.proofs.turns.fn.draw_all.values_of.Goals as goal

pub draw-requires-clause-known : goal.draw-requires-clause-known
draw-requires-clause-known g c _ _ test =
    subst (λ (s : Stage). OneStands (get_or c.captures.round.now.tests.now c.args.i test) c.captures.round.now.width
    c.captures.round.now.gap c.captures.before.now s) (sym c.index-stages-i.is)
    (c.requires.3.each c.args.i test c.index-stages-i.result
    (omega (arith, c.requires.0, c.requires.3.one_each)))

pub returns : goal.returns
returns g c =
    subst (λ (s : Stage). IfOk c.draw.result (IsDrawn c.captures.round.now c.captures.before.now c.args.i s))
    (c.index-stages-i.is ∙ get_or_default c.captures.stages.now c.args.i c.index-stages-i.result Open c.requires.0)
    c.draw.ensures
