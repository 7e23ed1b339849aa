-- The number of a table past its end.
use Rattle.std.proofs.Common.{arith}
use Rattle.std.proofs.lemmas.Int.{ints}
use Rattle.std.proofs.lemmas.List.{get_or_past}
use Rattle.walk_tables.proofs.table.Table.at.Goals as goal

pub returns-else-index-len-clause-between : goal.returns-else-index-len-clause-between
returns-else-index-len-clause-between c =
    let table = c.args.self.now in
    let past = get_or_past table.values.items c.args.count table.beyond (omega arith) in
    let between = table.between c.args.count in
    (omega (arith, ints, past, between.0, between.1), omega (arith, ints, past, between.0, between.1))

pub returns-else-index-len-clause-small : goal.returns-else-index-len-clause-small
returns-else-index-len-clause-small c =
    let table = c.args.self.now in
    let past = get_or_past table.values.items c.args.count table.beyond (omega arith) in
    let between = table.between c.args.count in
    omega (arith, ints, past, between.0, between.1, table.low, table.high)
