-- The first session document of streams by what they say of their processes, or why they have none.
use Rattle.std.specs.Prelude.{ℕ, nat_eq, nat_lt, if◌then◌else◌, List, [], ◌∷◌, ◌++◌, length, map, flat_map, codes, position, slice_index_or, Option, None, option_map, Result}
use Rattle.std.specs.Str.{bytes_eq}
use Rattle.def_format.specs.Documents.{has_twice}
use Rattle.def_format.specs.Limits.{process_limit}
use Rattle.def_format.specs.Lists.{first_some, first_that_applies, unless}
use Rattle.judge_infer.specs.Streams.{Process}

-- texts one after another, with this one between each two
abbrev pub list_text : List ℕ → List (List ℕ) → List ℕ
list_text between [] = []
list_text between (text ∷ texts) = text ++ flat_map (λ other. between ++ other) texts

-- with the initial value 0 for each variable
abbrev pub process_text : Process → List ℕ
process_text process =
    codes "{\"name\":\"" ++ process.name ++ codes "\",\"vars\":{"
    ++ list_text (codes ",") (map (λ var. codes "\"" ++ var ++ codes "\":0") process.vars) ++ codes "}}"

-- of version 2 if a message is received more than once in all, and with a predicate that never holds
abbrev pub document_text : List Process → List ℕ
document_text processes =
    codes "{\"processes\":[\n  " ++ list_text (codes ",\n  ") (map process_text processes) ++ codes "],\n "
    ++ codes "\"predicates\":[\n  {\"name\":\"replace_this\",\"text\":\"false\"}]"
    ++ (if has_twice (flat_map (λ (process : Process). process.received) processes)
    then codes ",\n \"version\":2" else [])
    ++ codes "}\n"

-- The first of these names that an earlier one is too, by the place of that one and its own. Before them stand others.
abbrev pub first_again : (before names : List (List ℕ)) → Option (ℕ × ℕ)
first_again before [] = None
first_again before (name ∷ names) =
    first_some (option_map (λ place. (place, length before)) (position (λ other. bytes_eq other name) before))
    (first_again (before ++ name ∷ []) names)

-- the document of streams in files of these names that are of these processes, or why there is none, in words
abbrev pub document_of : (files : List (List ℕ)) → List Process → Result (List ℕ) (List ℕ)
document_of files processes =
    unless (first_some
    (option_map (λ (places : ℕ × ℕ). slice_index_or files places.1 [] ++ codes ": it is of the same process as "
    ++ slice_index_or files places.0 []) (first_again [] (map (λ (process : Process). process.name) processes)))
    (first_that_applies ((nat_eq (length processes) 0, codes "there is no stream")
    ∷ (nat_lt process_limit (length processes), codes "there are more than 16 streams") ∷ [])))
    (document_text processes)
