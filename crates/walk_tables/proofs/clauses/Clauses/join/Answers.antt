-- Both conjunctions are one.
use Rattle.std.proofs.Common.{◌∙◌, ◌+◌, ◌≤◌, Bool, ap, sym, arith}
use Rattle.std.proofs.lemmas.Bool.Decides.{nat_tests}
use Rattle.walk_tables.specs.Clauses.{clauses_hold}
use Rattle.walk_tables.specs.Rows.{clause_holds}
use Rattle.walk_tables.specs.Zero.{joined}
use Rattle.walk_tables.proofs.Conjunctions.{all_below_both}
use Rattle.walk_tables.proofs.clauses.Clauses.join.Goals as goal

pub returns-in_ok-united : goal.returns-in_ok-united
returns-in_ok-united c prefix x y =
    let first = c.args.first in
    let second = c.args.second in
    let few : first.count + second.count ≤ 64 = grind (arith, nat_tests) in
    c.in_ok-united.ensures prefix x y
    ∙ all_below_both first.count second.count
    (clause_holds first.columns.items first.across first.down prefix x y)
    (clause_holds second.columns.items second.across second.down prefix x y) few (first.clear prefix x y)
    ∙ ap (λ (is_and : Bool). joined is_and (clauses_hold first prefix x y) (clauses_hold second prefix x y))
    (sym c.if-is_and.true)
