-- What was seen of each predicate stands in its place.
use Rattle.std.proofs.Common.{IfOk, get_or, subst}
use Rattle.std.proofs.lemmas.List.{get_or_default}
use Rattle.walk.specs.Turns.{IsDrawn}
use Rattle.walk.specs.declared.stage.Stage.{Stage}
use Rattle.walk.specs.declared.stage.Stage.TheVariants.{Open}
use Rattle.walk.proofs.turns.draw_all.Goals as goal

pub returns : goal.returns
returns g c = record {
  one_each = c.in_ok-drawn.ensures.one_each;
  each = λ i d stage lt.
      subst (λ (s : Stage). IfOk (get_or c.in_ok-drawn.drawn.items i d)
      (IsDrawn c.args.round.now c.args.before.now i s))
      (get_or_default c.args.stages.now i Open stage lt) (c.in_ok-drawn.ensures.values i d lt);
}
