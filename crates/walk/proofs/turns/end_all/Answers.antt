-- One more turn ends.
use Rattle.std.proofs.Common.{◌∙◌, arith}
use Rattle.std.proofs.lemmas.List.{get_or_default}
use Rattle.walk.proofs.Turning.{all_ended, next_drawn, none_ended, one_ended}
use Rattle.walk.proofs.turns.end_all.Goals as goal

pub loop-i-init : goal.loop-i-init
loop-i-init g c =
    none_ended c.args.round.now c.args.before.now c.args.drawn.now c.args.stages.now.items c.requires.one_each
    c.requires.drawn

pub end_turn-requires-clause-drawn : goal.end_turn-requires-clause-drawn
end_turn-requires-clause-drawn g c _ _ =
    next_drawn c.args.round.now c.args.before.now c.loop-i.i c.loop-i.drawn c.loop-i.stages.items c.replace.result
    c.in_ok-next.next c.index_mut.result.now c.loop-i-test.true c.loop-i.invariant
    (λ d. c.replace.ensures.value ∙ get_or_default c.loop-i.drawn c.loop-i.i c.index-drawn-i.result d
    (omega (arith, c.loop-i-test.true, c.loop-i.invariant.drawn_each)))
    c.in_ok-next.was
    (λ d. c.index_mut.ensures.value ∙ get_or_default c.loop-i.stages.items c.loop-i.i c.index_mut.result.now d
    (omega (arith, c.loop-i-test.true, c.loop-i.invariant.one_each)))

pub loop-i-preserved : goal.loop-i-preserved
loop-i-preserved g c =
    one_ended c.args.round.now c.args.before.now c.loop-i.i c.loop-i.drawn c.loop-i.stages.items c.replace.new.dest
    c.end_turn.new.stage c.loop-i-test.true c.loop-i.invariant c.in_ok-end_turn.ensures.known

pub returns : goal.returns
returns g c =
    all_ended c.args.round.now c.args.before.now c.loop-i.i c.loop-i.drawn c.loop-i.stages.items
    (omega (arith, c.loop-i-test.false)) c.loop-i.invariant
