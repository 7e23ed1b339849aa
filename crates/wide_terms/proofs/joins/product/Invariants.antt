-- The first terms are those of the first factors.
use Rattle.std.proofs.Common.{◌≡◌, take}
use Rattle.wide_terms.specs.Rows.{numbers_view, products}
use Rattle.wide_terms.proofs.joins.product.Given as goal

abbrev pub invariant-loop-i : goal.invariant-loop-i
invariant-loop-i l = numbers_view l.terms.items ≡ products (numbers_view (take l.i l.first)) (numbers_view l.second)
