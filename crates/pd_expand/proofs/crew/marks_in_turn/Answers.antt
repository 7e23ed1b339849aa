-- One more cut is marked.
use Rattle.std.proofs.Common.{◌≡◌, ◌<◌, ◌++◌, Bool, [], ◌∷◌, length, get_or, map, take, ap, arith}
use Rattle.std.proofs.lemmas.List.{take_more, map-append}
use Rattle.std.proofs.lemmas.Option.{slice_get-get_or}
use Rattle.def_model.specs.Predicates.{test_of}
use Rattle.pd_pred.specs.Views.{predicate_view}
use Rattle.pd_expand.proofs.crew.marks_in_turn.Goals as goal

pub loop-i-preserved : goal.loop-i-preserved
loop-i-preserved c =
    let lt : c.loop-i.i < length c.args.level.now.cuts = omega (arith, c.loop-i-test.true, c.len-i-end.ensures) in
    let here : c.holds.result ≡ test_of c.args.computation.now (predicate_view c.args.pred.now)
    (get_or c.args.level.now.cuts c.loop-i.i []) =
    rw (slice_get-get_or c.args.level.now.cuts c.loop-i.i [] lt) at c.holds.ensures in
    rw (
      c.in_ok-push.ensures.items,
      c.loop-i.invariant,
      take_more c.args.level.now.cuts c.loop-i.i [] lt,
      map-append (test_of c.args.computation.now (predicate_view c.args.pred.now))
          (take c.loop-i.i c.args.level.now.cuts) (get_or c.args.level.now.cuts c.loop-i.i [] ∷ []),
    )
    (ap (λ (b : Bool). map (test_of c.args.computation.now (predicate_view c.args.pred.now))
    (take c.loop-i.i c.args.level.now.cuts) ++ b ∷ []) here)
