-- What the search has kept.
use Rattle.judge_causes.proofs.search.causes_at.Goals as goal

pub returns : goal.returns
returns c r predicate stage =
    c.in_ok-causes.ensures r predicate (rw (c.deref.ensures.value, c.deref-2.ensures.value) stage)
