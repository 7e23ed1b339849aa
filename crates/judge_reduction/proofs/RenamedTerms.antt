-- The terms of a sum under other numbers of their processes.
use Rattle.std.proofs.Common.{◌≡◌, List, [], ◌∷◌, map, refl}
use Rattle.def_long.specs.Renamed.{Names, renamed_sum, renamed_term}
use Rattle.def_model.specs.Predicates as model
use Rattle.pd_pred.specs.Trees.{sign_view, term_view, terms_view}
use Rattle.pd_pred.specs.declared.tree.SignedTerm.{SignedTerm}

-- a term with its sign under these numbers
abbrev pub renamed_signed : Names → SignedTerm → model.Sign × model.Term
renamed_signed names t = (sign_view t.sign, renamed_term names (term_view t.term))

-- each term of the sum is renamed
pub renamed_terms : (names : Names) (terms : List SignedTerm)
    → renamed_sum names (terms_view terms) ≡ map (renamed_signed names) terms
renamed_terms names [] = refl
renamed_terms names (t ∷ terms) = let rest = renamed_terms names terms in cc
