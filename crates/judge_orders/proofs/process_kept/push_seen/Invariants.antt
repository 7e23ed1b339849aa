-- What the variables so far are worth was added.
use Rattle.std.proofs.Common.{◌≡◌, ◌++◌, take}
use Rattle.judge_orders.specs.ProcessEvents.{seen_in}
use Rattle.judge_orders.proofs.process_kept.push_seen.Given as goal

abbrev pub invariant-loop-var : goal.invariant-loop-var
invariant-loop-var l = l.values.items ≡ l.fn.values.items ++ seen_in l.row (take l.var-index l.vars)
