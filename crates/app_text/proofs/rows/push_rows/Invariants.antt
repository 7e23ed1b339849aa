-- Whatever rows what remains is put in, the line is put in those before and them.
use Rattle.std.proofs.Common.{◌≡◌, ◌<◌, ℕ, List, ◌++◌, length}
use Rattle.app_text.specs.Rows.{AreRows, first_columns}
use Rattle.app_text.proofs.rows.push_rows.Given as goal

abbrev pub invariant-rows : goal.invariant-rows
invariant-rows l = record {
  some : 0 < l.columns;
  rows : (text : List ℕ) → AreRows l.columns l.rest text → (all : List ℕ) × AreRows first_columns l.line all
      × (l.out.items ++ text ≡ l.initial.out.items ++ all);
}

abbrev pub decreases-rows : goal.decreases-rows
decreases-rows l = length l.rest
