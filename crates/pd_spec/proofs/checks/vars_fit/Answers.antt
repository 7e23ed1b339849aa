-- There are as many variables as entries of the map that holds them.
use Rattle.std.proofs.Common.{arith}
use Rattle.pd_spec.proofs.MemberViews.{keys-length}
use Rattle.pd_spec.proofs.checks.vars_fit.Goals as goal

pub returns-then-len-le-VAR_LIMIT : goal.returns-then-len-le-VAR_LIMIT
returns-then-len-le-VAR_LIMIT c =
    let len = c.len.ensures.len in
    let whole = c.are_whole.ensures in
    let small = c.if-len-le-VAR_LIMIT.true in
    rw (keys-length c.args.process.now.vars.now.entries) (grind arith)

pub returns-else-len-le-VAR_LIMIT : goal.returns-else-len-le-VAR_LIMIT
returns-else-len-le-VAR_LIMIT c =
    let len = c.len.ensures.len in
    let large = c.if-len-le-VAR_LIMIT.false in
    rw (keys-length c.args.process.now.vars.now.entries) (grind arith)
