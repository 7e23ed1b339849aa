-- What stands in a page beside its session: what is wished of its predicates, notes, and a pattern of links.
use Rattle.std.specs.Prelude.{ℕ, List, ◌++◌, codes, decimal, position, unwrap_or, Option, Some, None}
use Rattle.std.specs.Str.{bytes_eq}
use Rattle.def_format.specs.Documents.{NamedPredicate}
use Rattle.out_page.specs.JsonTexts.{quoted}

-- Wishes, each as its word and the name of its predicate; notes as they were written; and a pattern by which a line of
-- a file has a link.
pub record Extras : Type 0 where
  pub wishes : List (List ℕ × List ℕ)
  pub notes : List (List ℕ)
  pub link : Option (List ℕ)

-- the number of the first predicate of this name, from 0
abbrev pub predicate_number : List NamedPredicate → List ℕ → ℕ
predicate_number predicates name =
    unwrap_or (position (λ (predicate : NamedPredicate). bytes_eq predicate.name name) predicates) 0

-- a wish, by its word and the number of its predicate
unfoldable pub wish_text : List NamedPredicate → List ℕ × List ℕ → List ℕ
wish_text predicates (word, name) =
    codes "[" ++ quoted word ++ codes "," ++ decimal (predicate_number predicates name) ++ codes "]"

abbrev pub link_text : Option (List ℕ) → List ℕ
link_text None = codes "null"
link_text (Some pattern) = quoted pattern
