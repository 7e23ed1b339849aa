-- Each trial that is left is the next one, until none is.
use Rattle.std.proofs.Common.{arith}
use Rattle.judge_shared.proofs.TrialSteps.{first_taken, no_length, none_left, one_more}
use Rattle.judge_shared.proofs.trial.final_outcomes.Goals as goal

pub loop-alloc-init : goal.loop-alloc-init
loop-alloc-init c =
    λ options sound are. record {
      sound = sound;
      trials = are;
      with_others = λ more others. rw c.new-outcomes.ensures.items others;
    }

pub loop-alloc-preserved : goal.loop-alloc-preserved
loop-alloc-preserved c =
    λ options sound are.
    one_more options c.args.trials.items c.loop-alloc.rest.items c.remove-trial.new.self.items _
    c.loop-alloc.outcomes.items c.push.new.self.items _ c.loop-alloc.orders c.final_result.new.orders
    (first_taken c.loop-alloc.rest.items c.remove-trial.new.self.items c.remove-trial.result
    (omega (arith, c.loop-alloc-test.true, c.len.ensures, c.loop-alloc.rest.ok.0)) c.remove-trial.ensures.value
    c.remove-trial.ensures.items)
    c.in_ok-push.ensures.items (c.loop-alloc.invariant options sound are) (c.in_ok-final_result.ensures options)

pub returns : goal.returns
returns c =
    λ options sound are.
    none_left options c.args.trials.items c.loop-alloc.rest.items c.loop-alloc.outcomes.items c.loop-alloc.orders
    (no_length c.loop-alloc.rest.items
    (omega (arith, c.loop-alloc-test.false, c.len.ensures, c.loop-alloc.rest.ok.0)))
    (c.loop-alloc.invariant options sound are)
