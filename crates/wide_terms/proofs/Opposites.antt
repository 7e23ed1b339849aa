-- The terms of a predicate that is negated are those of its opposite.
use Rattle.std.proofs.Common.{◌≤◌, ◌↔◌}
use Rattle.std.specs.Prelude.{Bool, true, false}
use Rattle.def_model.specs.Decided.{HasFewTerms, IsLocal, term_count, term_limit}
use Rattle.def_model.specs.Predicates.{Predicate}
use Rattle.def_wide.specs.Parts.{opposite_if}

pub opposite_few : (negated : Bool) (predicate : Predicate)
    → HasFewTerms (opposite_if negated predicate) ↔ (IsLocal predicate × (term_count negated predicate ≤ term_limit))
opposite_few true predicate = (λ few. few, λ few. few)
opposite_few false predicate = (λ few. few, λ few. few)
