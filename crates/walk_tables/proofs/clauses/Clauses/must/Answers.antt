-- What the prefix makes true is true at each cut with it.
use Rattle.std.proofs.Common.{◌∙◌, sym}
use Rattle.walk_keys.specs.Words.{has_bit}
use Rattle.walk_tables.specs.Rows.{clause_holds, columns_have, row_has}
use Rattle.walk_tables.proofs.Conjunctions.{all_known, known_at}
use Rattle.walk_tables.proofs.clauses.Clauses.must.Goals as goal

pub returns : goal.returns
returns c is x y =
    let clauses = c.args.self.now in
    let prefix = c.args.prefix.now in
    all_known clauses.count (has_bit c.base.result)
    (clause_holds clauses.columns.items clauses.across clauses.down prefix x y)
    (λ j set.
    known_at (columns_have clauses.columns.items prefix j) (row_has clauses.across x j) (row_has clauses.down y j)
    (sym (c.base.ensures j) ∙ set))
    (sym c.has_lowest.ensures ∙ is)
