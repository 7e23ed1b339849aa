-- What the variables that a predicate names are worth, in words.
use Rattle.std.specs.Prelude.{ℕ, zero, suc, ℤ, if◌then◌else◌, List, [], ◌∷◌, ◌++◌, length, codes, Option, Some, None, slice_index_or}
use Rattle.std.specs.Fmt.{signed_decimal}
use Rattle.def_model.specs.Predicates.{Predicate}
use Rattle.def_format.specs.Names.{ProcessNames, vars_of}
use Rattle.judge_facts.specs.Named.{names_variable}
use Rattle.out_picture.specs.Layout.{upto}

abbrev pub shown_value : (name : List ℕ) → ℤ → List ℕ
shown_value name value = name ++ codes " = " ++ signed_decimal value

-- the item, after a comma if something stands before it
abbrev pub joined : List ℕ → List ℕ → List ℕ
joined [] item = item
joined (byte ∷ rest) item = byte ∷ rest ++ codes ", " ++ item

abbrev pub with_item : List ℕ → Option (List ℕ) → List ℕ
with_item text None = text
with_item text (Some item) = joined text item

-- the items with the numbers below n, those that are there, with commas between
abbrev pub items_text : (ℕ → Option (List ℕ)) → ℕ → List ℕ
items_text item zero = []
items_text item (suc n) = with_item (items_text item n) (item n)

-- what a variable of a process with these variables is worth, if the predicate names it
abbrev pub item_at : (vars : List (List ℕ)) → (ℕ → ℕ → ℤ) → Predicate → (process var : ℕ) → Option (List ℕ)
item_at vars state predicate process v =
    if names_variable process v predicate then Some (shown_value (slice_index_or vars v []) (state process v)) else None

-- for each process what its variables that the predicate names are worth
abbrev pub value_texts : List ProcessNames → (ℕ → ℕ → ℤ) → Predicate → List (List ℕ)
value_texts names state predicate =
    upto (λ p. items_text (item_at (vars_of names p) state predicate p) (length (vars_of names p)) ∷ [])
    (length names)
