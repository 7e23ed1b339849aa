-- The comparisons of a predicate, and its terms by their numbers.
use Rattle.std.specs.Prelude.{◌≡◌, ℕ, ◌<◌, All, List, [], ◌++◌, length, map, slice_index_or}
use Rattle.def_model.specs.Predicates.{Compare, Equals}
use Rattle.def_wide.specs.Terms as model
use Rattle.pd_pred.specs.Trees.{comparison_view, sum_view, tree_view}
use Rattle.wide_sums.specs.declared.literal.Literal.{Literal}

-- the comparison, or its opposite if it is negated, as a term has it
abbrev pub literal_view : Literal → model.Literal
literal_view l = model.literal_of l.negated (sum_view l.left.now) (comparison_view l.comparison) (sum_view l.right.now)

-- its parts are those of its tree
abbrev pub IsWhole : Literal → Type 0
IsWhole l = tree_view l.tree.now ≡ Compare (sum_view l.left.now) (comparison_view l.comparison) (sum_view l.right.now)

-- what stands past the end
abbrev pub no_literal : model.Literal
no_literal = record { left = []; comparison = Equals; right = [] }

-- the comparison with this number
abbrev pub literal_at : List Literal → ℕ → model.Literal
literal_at literals i = slice_index_or (map literal_view literals) i no_literal

-- a term, given by the numbers of its comparisons, and terms
abbrev pub term_at : List Literal → List ℕ → List model.Literal
term_at literals numbers = map (literal_at literals) numbers

abbrev pub terms_at : List Literal → List (List ℕ) → List (List model.Literal)
terms_at literals terms = map (term_at literals) terms

-- the comparison with this number is there, and is this one
pub record IsNumberOf (literals : List Literal) (l : model.Literal) (number : ℕ) : Type 0 where
  pub there : number < length literals
  pub at : literal_at literals number ≡ l

-- The comparison was among the others, or was put after them, and this is its number.
pub record TakesLiteral (l : model.Literal) (old new : List Literal) (number : ℕ) : Type 0 where
  pub more : List Literal
  pub is : new ≡ old ++ more
  pub whole : All IsWhole more
  pub number_of : IsNumberOf new l number

-- each term is of comparisons that are there
abbrev pub AreOf : List Literal → List (List ℕ) → Type 0
AreOf literals terms = All (All (λ i. i < length literals)) terms

-- Comparisons were put after others, and these are the wanted terms by them.
pub record MakesTerms (wanted : List (List model.Literal)) (old new : List Literal) (terms : List (List ℕ)) : Type 0
  where
    pub more : List Literal
    pub is : new ≡ old ++ more
    pub whole : All IsWhole more
    pub speak : AreOf new terms
    pub same : terms_at new terms ≡ wanted
