-- What a conjunction of clauses means at a cut.
use Rattle.std.specs.Prelude.{ℕ, ◌+◌, List, Bool, cond, ◌&&◌, nat_eq, nat_le, nat_lt}
use Rattle.walk_tables.specs.Rows.{all_below, clause_holds}
use Rattle.walk_tables.specs.declared.clauses.Clauses.{Clauses}

-- whether all clauses are true
abbrev pub clauses_hold : Clauses → List ℕ → ℕ → ℕ → Bool
clauses_hold clauses prefix x y =
    all_below clauses.count (clause_holds clauses.columns.items clauses.across clauses.down prefix x y)

-- whether both of two conjunctions, or one of them, are one conjunction of at most 64 clauses
abbrev pub can_join : Bool → ℕ → ℕ → Bool
can_join is_and first second =
    cond is_and (nat_lt first 64 && nat_le (first + second) 64) (nat_eq first 1 && nat_eq second 1)
