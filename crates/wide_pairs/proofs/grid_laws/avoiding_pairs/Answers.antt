-- Which pairs are those of avoiding cuts.
use Rattle.wide_pairs.proofs.AvoidingPairs.{avoids_by_neighbor, avoids_by_pair}
use Rattle.wide_pairs.proofs.grid_laws.avoiding_pairs.Goals as goal

pub returns-clause-by_neighbor : goal.returns-clause-by_neighbor
returns-clause-by_neighbor c = avoids_by_neighbor

pub returns-clause-by_pair : goal.returns-clause-by_pair
returns-clause-by_pair c = avoids_by_pair
