-- The number past the end is small.
use Rattle.std.proofs.Common.{arith, length}
use Rattle.std.proofs.lemmas.Int.{ints}
use Rattle.std.proofs.lemmas.List.{get_or_past}
use Rattle.walk_tables.proofs.table.Table.at_end.Goals as goal

pub returns-clause-small : goal.returns-clause-small
returns-clause-small c =
    let table = c.args.self.now in
    let n = length table.values.items in
    let past = get_or_past table.values.items n table.beyond (omega arith) in
    let between = table.between n in
    omega (arith, ints, past, between.0, between.1, table.low, table.high)
