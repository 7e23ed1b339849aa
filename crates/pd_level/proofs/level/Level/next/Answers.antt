-- The successors are the next level, if they are no more than the width.
use Rattle.pd_level.proofs.level.Level.next.Goals as goal

pub returns-clause-wide : goal.returns-clause-wide
returns-clause-wide c = λ wide.
    let more = rw wide at c.within.ensures.wide in
    (c.in_ok-next.next.cuts, c.in_ok-next.ensures.list, more.1)
