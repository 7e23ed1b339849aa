-- The set's order says so.
use Rattle.wide_back.proofs.SeenSets.{sorted_apart}
use Rattle.std.proofs.Common.{List, ℕ, subst}
use Rattle.def_wide.specs.DeadEnds.{AreApart}
use Rattle.wide_back.proofs.dead.DeadEnds.len.Goals as goal

pub returns-clause-apart : goal.returns-clause-apart
returns-clause-apart c =
    subst (λ (xs : List (List ℕ)). AreApart xs) c.self.view_is
    (sorted_apart c.self.inside.seen.keys c.len.ensures.ordered)
