-- What the prefix makes true is true at each cut with it.
use Rattle.std.proofs.Common.{◌∙◌, ◌+◌, ◌-◌, sym}
use Rattle.walk_keys.specs.Words.{has_bit}
use Rattle.walk_tables.specs.Rows.{clause_holds, columns_have, row_has}
use Rattle.walk_tables.proofs.Conjunctions.{all_known, known_at}
use Rattle.walk_tables.proofs.clauses.Clauses.mask.Goals as goal

pub returns-then-has_lowest-clause-within : goal.returns-then-has_lowest-clause-within
returns-then-has_lowest-clause-within c j lt =
    let clauses = c.args.self.now in
    let prefix = c.args.prefix.now in
    let x = c.args.x + j in
    let y = c.args.y - j in
    c.lowest.ensures.within j lt
    ∙ sym (all_known clauses.count (has_bit c.base-base.result)
    (clause_holds clauses.columns.items clauses.across clauses.down prefix x y)
    (λ k set.
    known_at (columns_have clauses.columns.items prefix k) (row_has clauses.across x k) (row_has clauses.down y k)
    (sym (c.base-base.ensures k) ∙ set))
    (sym c.has_lowest.ensures ∙ c.if-has_lowest.true))
