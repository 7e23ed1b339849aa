-- What the terms so far have added.
use Rattle.std.proofs.Common.{◌≡◌, ℕ, ◌<◌, List, length, drop, ◌+ℤ◌}
use Rattle.std.specs.Prelude.{slice_index}
use Rattle.def_model.specs.Predicates as model
use Rattle.def_model.specs.Predicates.{state_at}
use Rattle.pd_pred.specs.Trees.{sign_view, terms_view}
use Rattle.walk_tables.specs.Parts.{parts_value, row_at}
use Rattle.walk_tables.specs.Zero.{IsSmall}
use Rattle.walk_tables.proofs.parts.add_terms.Given as goal

abbrev pub invariant-loop-signed : goal.invariant-loop-signed
invariant-loop-signed l = record {
  small : (k : ℕ) → IsSmall (row_at l.row k);
  added : (counts : List ℕ) → slice_index counts l.process < length l.row
      → row_at l.row (slice_index counts l.process) +ℤ model.signed (sign_view l.side)
      (parts_value (state_at l.computation.initial l.computation.events counts) l.process
      (terms_view (drop l.signed-index l.terms)))
      ≡ row_at l.initial.row (slice_index counts l.process) +ℤ model.signed (sign_view l.side)
      (parts_value (state_at l.computation.initial l.computation.events counts) l.process (terms_view l.terms));
}
