-- Pairs that are sorted by their numbers.
use Rattle.std.proofs.Common.{rules}
use Rattle.std.proofs.lemmas.List.Sorted.{IsNonDecreasingBy-from_sort_by}
use Rattle.walk_keys.specs.Pairs.{pair_number}
use Rattle.walk_keys.specs.declared.pair.Pair.{Pair}
use Rattle.walk_keys.proofs.pair.PairKey.sort.Goals as goal

pub returns-clause-ascends : goal.returns-clause-ascends
returns-clause-ascends c =
    IsNonDecreasingBy-from_sort_by (λ (pair : Pair). pair_number pair.first pair.second) c.sort_by.new.self.items
    c.in_ok-sort_by.ensures.sorted (λ a r q k. search rules)
