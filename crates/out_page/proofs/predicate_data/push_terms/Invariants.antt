-- The others so far.
use Rattle.std.proofs.Common.{◌≡◌, ◌∷◌, ◌++◌, take}
use Rattle.std.specs.Prelude.{flat_map}
use Rattle.out_page.specs.PredicateData.{term_text}
use Rattle.pd_pred.specs.Trees.{signed_term_view}
use Rattle.out_page.proofs.predicate_data.push_terms.Given as goal

abbrev pub invariant-loop-term : goal.invariant-loop-term
invariant-loop-term l =
    l.out.items
    ≡ l.initial.out.items ++ flat_map (λ x. 44 ∷ term_text (signed_term_view x)) (take l.term-index l.others)
