-- The variables of one process have grown.
use Rattle.std.proofs.Common.{arith}
use Rattle.judge_orders.proofs.Growing.{added_at, grows_at, there_at}
use Rattle.judge_orders.proofs.named.name_var.Goals as goal

pub returns-in_ok-push_new-clause-grows : goal.returns-in_ok-push_new-clause-grows
returns-in_ok-push_new-clause-grows c =
    grows_at c.args.named.now.items c.args.process c.index_mut.result.now c.push_new.new.vars _
    (omega (arith, c.if-process-len.true, c.len.ensures)) c.index_mut.ensures.value c.in_ok-push_new.ensures.stay

pub returns-in_ok-push_new-clause-there : goal.returns-in_ok-push_new-clause-there
returns-in_ok-push_new-clause-there c = λ lt.
    there_at c.args.named.now.items c.args.process c.push_new.new.vars c.args.var
    (omega (arith, c.if-process-len.true, c.len.ensures)) c.in_ok-push_new.ensures.there

pub returns-in_ok-push_new-clause-just : goal.returns-in_ok-push_new-clause-just
returns-in_ok-push_new-clause-just c =
    added_at c.args.named.now.items c.args.process c.args.var c.index_mut.result.now c.push_new.new.vars _
    (omega (arith, c.if-process-len.true, c.len.ensures)) c.index_mut.ensures.value c.in_ok-push_new.ensures.just
