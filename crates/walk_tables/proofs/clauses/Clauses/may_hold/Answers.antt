-- A clause that may be true has its bit.
use Rattle.std.proofs.Common.{◌∙◌, sym}
use Rattle.walk_keys.specs.Words.{has_bit}
use Rattle.walk_tables.specs.Rows.{clause_holds, columns_have, row_has}
use Rattle.walk_tables.proofs.Conjunctions.{all_below_less, may_at}
use Rattle.walk_tables.proofs.clauses.Clauses.may_hold.Goals as goal

pub returns : goal.returns
returns c is_not prefix x y base =
    let clauses = c.args.self.now in
    all_below_less clauses.count
    (clause_holds clauses.columns.items clauses.across clauses.down prefix x y) (has_bit c.either.result)
    (λ j. may_at (columns_have clauses.columns.items prefix j) (row_has clauses.across x j) (row_has clauses.down y j)
    (has_bit c.args.base j) (has_bit clauses.reach j) (has_bit c.either.result j) (c.either.ensures j) (base j)
    (clauses.reached x y j))
    (sym c.has_lowest.ensures ∙ is_not)
