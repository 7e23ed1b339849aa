-- What the loop over terms keeps: those that are seen add nothing of the process.
use Rattle.std.proofs.Common.{drop, ◌≡◌, ℕ, ℤ, pos}
use Rattle.pd_pred.specs.Trees.{terms_view}
use Rattle.walk_tables.specs.Parts.{parts_value}
use Rattle.walk_tables.proofs.parts.speaks_of.Given as goal

abbrev pub invariant-loop-signed : goal.invariant-loop-signed
invariant-loop-signed l =
    (state : ℕ → ℕ → ℤ) → parts_value state l.process (terms_view (drop l.signed-index l.terms)) ≡ pos 0
    → parts_value state l.process (terms_view l.terms) ≡ pos 0
