-- The term with the first others was added.
use Rattle.std.proofs.Common.{◌≡◌, List, ℕ, ◌++◌, map, take}
use Rattle.wide_terms.specs.Rows.{numbers_view}
use Rattle.wide_terms.proofs.joins.push_each.Given as goal

abbrev pub invariant-loop-i : goal.invariant-loop-i
invariant-loop-i l =
    numbers_view l.terms.items
    ≡ numbers_view l.fn.terms.items ++ map (λ (other : List ℕ). l.term ++ other) (numbers_view (take l.i l.others))
