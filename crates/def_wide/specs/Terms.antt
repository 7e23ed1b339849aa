-- A predicate as an `or` of terms, each of which is an `and` of comparisons.
use Rattle.std.specs.Prelude.{◌≡◌, ℕ, Bool, true, false, ◌&&◌, ◌||◌, cond, not, List, [], ◌∷◌, ◌++◌, flat_map, map}
use Rattle.def_model.specs.Predicates.{Sign, Term, Comparison, Equals, Differs, IsLess, IsAtMost, IsGreater, IsAtLeast, Predicate, Always, Never, Compare, Not, And, Or, Recorded, compares, state_at, sum_value, test_of}

-- a comparison of two sums, as a term has it
pub record Literal : Type 0 where
  pub left : List (Sign × Term)
  pub comparison : Comparison
  pub right : List (Sign × Term)

-- what holds exactly if the comparison doesn't
abbrev pub opposite : Comparison → Comparison
opposite Equals = Differs
opposite Differs = Equals
opposite IsLess = IsAtLeast
opposite IsAtMost = IsGreater
opposite IsGreater = IsAtMost
opposite IsAtLeast = IsLess

-- the comparison, or its opposite if it is negated
abbrev pub literal_of : (negated : Bool) → List (Sign × Term) → Comparison → List (Sign × Term) → Literal
literal_of negated left comparison right = record {
  left = left;
  comparison = cond negated (opposite comparison) comparison;
  right = right;
}

-- each of the first terms with each of the second
abbrev pub products : List (List Literal) → List (List Literal) → List (List Literal)
products first second = flat_map (λ term. map (λ other. term ++ other) second) first

-- the terms of the predicate, or of its opposite if it is negated
abbrev pub terms_of : (negated : Bool) → Predicate → List (List Literal)
terms_of negated Always = cond negated [] ([] ∷ [])
terms_of negated Never = cond negated ([] ∷ []) []
terms_of negated (Compare left comparison right) = (literal_of negated left comparison right ∷ []) ∷ []
terms_of negated (Not inner) = terms_of (not negated) inner
terms_of negated (And left right) =
    cond negated (terms_of negated left ++ terms_of negated right)
    (products (terms_of negated left) (terms_of negated right))
terms_of negated (Or left right) =
    cond negated (products (terms_of negated left) (terms_of negated right))
    (terms_of negated left ++ terms_of negated right)

-- whether the comparison holds at a cut
abbrev pub literal_holds : Recorded → Literal → List ℕ → Bool
literal_holds r l cut =
    compares l.comparison (sum_value (state_at r.initial r.events cut) l.left)
    (sum_value (state_at r.initial r.events cut) l.right)

-- each comparison of a term does
abbrev pub term_holds : Recorded → List Literal → List ℕ → Bool
term_holds r [] cut = true
term_holds r (l ∷ term) cut = literal_holds r l cut && term_holds r term cut

-- some term does
abbrev pub some_term_holds : Recorded → List (List Literal) → List ℕ → Bool
some_term_holds r [] cut = false
some_term_holds r (term ∷ terms) cut = term_holds r term cut || some_term_holds r terms cut

-- A cut satisfies a predicate exactly if some term of it holds there.
abbrev pub TermsMean : Type 0
TermsMean =
    (r : Recorded) (predicate : Predicate) (cut : List ℕ)
    → some_term_holds r (terms_of false predicate) cut ≡ test_of r predicate cut
