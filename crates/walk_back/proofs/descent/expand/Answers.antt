-- One more level is held.
use Rattle.std.proofs.Common.{◌≡◌, ℕ, ◌+◌, List, [], ◌∷◌, ◌++◌, length, max, take, sym, ap, ◌∙◌, subst, arith}
use Rattle.std.proofs.lemmas.List.{length_push, take-append-le}
use Rattle.def_model.specs.Predicates.{test_of}
use Rattle.pd_pred.specs.Views.{predicate_view}
use Rattle.pd_level.specs.Levels.{Levelled}
use Rattle.walk_back.specs.Counts.{others}
use Rattle.walk_back.specs.Ways.{AreAvoidingLevels, AreInTurn, last_number}
use Rattle.walk_back.proofs.LevelLists.{in_turn_push, last_number_push, last_number_read, levels_push}
use Rattle.walk_back.proofs.descent.expand.Goals as goal

pub loop-preserved : goal.loop-preserved
loop-preserved g c =
    let first : ℕ = length c.args.held.now.levels.items in
    let pushed : c.push.new.self.levels.items ≡ c.loop.held.levels.items ++ c.in_ok-next.next ∷ [] =
    c.in_ok-push.ensures.levels in
    let count : length c.push.new.self.levels.items ≡ length c.loop.held.levels.items + 1 =
    ap length pushed ∙ length_push c.loop.held.levels.items c.in_ok-next.next in
    let last : c.last-in-loop.result.now.number ≡ last_number c.loop.held.levels.items =
    last_number_read c.loop.held.levels.items c.last-in-loop.result.now c.last-in-loop.ensures in
    let here : c.in_ok-next.next.number ≡ c.loop.counter =
    omega (arith, c.in_ok-next.ensures.number, c.loop.invariant.number) in
    let number : last_number c.push.new.self.levels.items ≡ c.in_ok-next.next.number =
    ap last_number pushed ∙ last_number_push c.loop.held.levels.items c.in_ok-next.next in
    let walked : length c.push.new.self.walked.items ≡ length c.loop.held.walked.items =
    ap (λ (levels : List Levelled). length levels) c.push.ensures.walked in
    let same : others c.push.new.self ≡ others c.args.held.now =
    omega (arith, c.push.ensures.beside, c.loop.invariant.same_others) in
    let most : c.push.new.self.most
    ≡ max c.loop.held.most
    (length c.push.new.self.levels.items + length c.loop.held.walked.items + c.loop.held.beside) =
    c.in_ok-push.ensures.most in
    record {
      some = omega arith;
      lists = subst (λ (levels : List Levelled). AreAvoidingLevels c.args.computation.now.events (test_of
          c.args.computation.now (predicate_view c.args.pred.now)) levels) (sym pushed)
          (levels_push c.args.computation.now.events (test_of c.args.computation.now (predicate_view c.args.pred.now))
          c.loop.held.levels.items c.in_ok-next.next c.loop.invariant.lists
          c.in_ok-next.ensures.list);
      within = omega (arith, c.loop.invariant.within);
      kept = ap (λ (levels : List Levelled). take (length c.args.held.now.levels.items) levels) pushed
          ∙ (take-append-le (length c.args.held.now.levels.items) c.loop.held.levels.items (c.in_ok-next.next ∷ [])
          c.loop.invariant.within ∙ c.loop.invariant.kept);
      in_turn = subst (λ (levels : List Levelled).
          AreInTurn (length c.args.held.now.levels.items) (last_number c.args.held.now.levels.items) levels)
          (sym pushed) (in_turn_push (length c.args.held.now.levels.items) (last_number c.args.held.now.levels.items)
          c.loop.held.levels.items c.in_ok-next.next c.loop.invariant.in_turn
          (omega (arith, c.loop.invariant.count)));
      number = omega arith;
      count = omega (arith, c.loop.invariant.count);
      no_fewer = omega (arith, c.loop.invariant.no_fewer);
      same_others = same;
      most = omega (arith, c.loop.invariant.most, c.loop.invariant.same_others);
    }
