-- What the loop over terms keeps: the sum of the numbers so far.
use Rattle.std.proofs.Common.{drop, ◌≡◌, ◌*◌, ◌≤◌, ◌^◌, ◌+ℤ◌}
use Rattle.pd_pred.specs.Trees.{terms_view}
use Rattle.walk_tables.specs.Parts.{numbers_value}
use Rattle.std.specs.Int.RustNames.{unsigned_abs}
use Rattle.walk_tables.proofs.parts.numbers.Given as goal

abbrev pub invariant-loop-signed : goal.invariant-loop-signed
invariant-loop-signed l = record {
  sum : l.total +ℤ numbers_value (terms_view (drop l.signed-index l.terms)) ≡ numbers_value (terms_view l.terms);
  small : unsigned_abs l.total ≤ l.signed-index * 2 ^ 64;
}
