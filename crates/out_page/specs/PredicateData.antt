-- What stands in a page for a predicate: its tree, as lists of JSON that begin with a word.
use Rattle.std.specs.Prelude.{ℕ, List, ◌++◌, codes, decimal}
use Rattle.def_model.specs.Predicates.{Predicate, Always, Never, Compare, Not, And, Or, Comparison, Equals, Differs, IsLess, IsAtMost, IsGreater, IsAtLeast, Sign, Plus, Minus, Term, Number, Variable, Times}
use Rattle.out_page.specs.JsonTexts.{array}

abbrev pub sign_text : Sign → List ℕ
sign_text Plus = codes "\"+\""
sign_text Minus = codes "\"-\""

-- After the sign of a term: a number; or the process and the variable, counted from 0; or a number and these. A number
-- of a predicate is a text.
unfoldable pub term_fields : Term → List ℕ
term_fields (Number n) = codes ",\"" ++ decimal n ++ codes "\""
term_fields (Variable process var) = codes "," ++ decimal process ++ codes "," ++ decimal var
term_fields (Times factor process var) =
    codes ",\"" ++ decimal factor ++ codes "\"," ++ decimal process ++ codes "," ++ decimal var

abbrev pub term_text : Sign × Term → List ℕ
term_text (sign, term) = codes "[" ++ sign_text sign ++ term_fields term ++ codes "]"

abbrev pub comparison_word : Comparison → List ℕ
comparison_word Equals = codes "equals"
comparison_word Differs = codes "differs"
comparison_word IsLess = codes "less"
comparison_word IsAtMost = codes "at most"
comparison_word IsGreater = codes "greater"
comparison_word IsAtLeast = codes "at least"

-- a word, and what it joins
abbrev pub joined : (word left right : List ℕ) → List ℕ
joined word left right = codes "[\"" ++ word ++ codes "\"," ++ left ++ codes "," ++ right ++ codes "]"

abbrev pub predicate_text : Predicate → List ℕ
predicate_text Always = codes "[\"true\"]"
predicate_text Never = codes "[\"false\"]"
predicate_text (Compare left comparison right) =
    joined (comparison_word comparison) (array term_text left) (array term_text right)
predicate_text (Not inner) = codes "[\"not\"," ++ predicate_text inner ++ codes "]"
predicate_text (And left right) = joined (codes "and") (predicate_text left) (predicate_text right)
predicate_text (Or left right) = joined (codes "or") (predicate_text left) (predicate_text right)
