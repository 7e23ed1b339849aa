-- Steps stand in the order by which they are sorted.
use Rattle.std.proofs.Common.{rules}
use Rattle.std.proofs.lemmas.List.Sorted.{IsNonDecreasingBy-from_sort_by_key}
use Rattle.std.proofs.lemmas.Result.{on_ok_weaker}
use Rattle.wide_reach.specs.Keys.{rank}
use Rattle.wide_reach.proofs.sorted.sort.Goals as goal

pub returns-clause-ascending : goal.returns-clause-ascending
returns-clause-ascending c =
    on_ok_weaker c.sort_by_key.result (λ sorted.
    IsNonDecreasingBy-from_sort_by_key rank c.sort_by_key.new.self.items sorted (λ a r q k. search rules))
    c.sort_by_key.ensures.sorted
