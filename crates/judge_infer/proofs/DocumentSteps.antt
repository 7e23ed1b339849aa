-- The first document by the definition of `FirstDocuments` and that by its parts are the same.
use Rattle.std.proofs.Common.{◌≡◌, ℕ, Bool, true, false, List, [], ◌∷◌, ◌++◌, length, refl}
use Rattle.std.proofs.Math.Dec.{eqb-suc-zero}
use Rattle.std.specs.Prelude.{nat_eq, nat_lt, position, Option, Some, None, option_map}
use Rattle.std.specs.Str.{bytes_eq}
use Rattle.def_format.specs.Lists.{first_some, first_that_applies, unless}
use Rattle.def_format.specs.Limits.{process_limit}
use Rattle.judge_infer.specs.FirstDocuments.{document_text, first_again}
use Rattle.judge_infer.specs.FirstDocuments as first
use Rattle.judge_infer.specs.DocumentParts.{NoStream, SameProcess, TooMany, again_after, document_of, fault_words, first_document, is_copied, names_of, process_text, processes_text, unless_same, vars_text, worded_document}
use Rattle.judge_infer.specs.Streams.{Process}

text_same : (processes : List Process) → document_text processes ≡ first_document processes
unfolding first_document processes_text process_text vars_text
text_same processes = go (is_copied processes) refl
  where
    go : (b : Bool) → is_copied processes ≡ b → document_text processes ≡ first_document processes
    go true is = rw is refl
    go false is = rw is refl

again_same : (before names : List (List ℕ)) → first_again before names ≡ again_after before names
again_same before [] = refl
again_same before (name ∷ names) =
    go (position (λ other. bytes_eq other name) before) refl (again_same (before ++ name ∷ []) names)
  where
    go : (place : Option ℕ) → position (λ other. bytes_eq other name) before ≡ place
        → first_again (before ++ name ∷ []) names ≡ again_after (before ++ name ∷ []) names
        → first_again before (name ∷ names) ≡ again_after before (name ∷ names)
    go None is later = rw is later
    go (Some place) is later = rw is refl

-- the words for two streams of one process
abbrev same_words : (files : List (List ℕ)) → ℕ × ℕ → List ℕ
same_words files places = fault_words files (SameProcess places.0 places.1)

unless_words : (files : List (List ℕ)) (processes : List Process) (places : Option (ℕ × ℕ))
    → unless (first_some (option_map (same_words files) places)
    (first_that_applies ((nat_eq (length processes) 0, fault_words files NoStream)
    ∷ (nat_lt process_limit (length processes), fault_words files TooMany) ∷ []))) (document_text processes)
    ≡ worded_document files (unless_same processes places)
unless_words files [] None = refl
unless_words files [] (Some places) = refl
unless_words files (process ∷ others) (Some places) = refl
unless_words files (process ∷ others) None = go (nat_lt process_limit (length (process ∷ others))) refl
  where
    go : (b : Bool) → nat_lt process_limit (length (process ∷ others)) ≡ b
        → unless (first_that_applies ((nat_eq (length (process ∷ others)) 0, fault_words files NoStream)
        ∷ (nat_lt process_limit (length (process ∷ others)), fault_words files TooMany) ∷ []))
        (document_text (process ∷ others)) ≡ worded_document files (unless_same (process ∷ others) None)
    go true is = rw (eqb-suc-zero (length others), is) refl
    go false is = rw (eqb-suc-zero (length others), is, text_same (process ∷ others)) refl

pub document_same : (files : List (List ℕ)) (processes : List Process)
    → first.document_of files processes ≡ worded_document files (document_of processes)
document_same files processes =
    rw (again_same [] (names_of processes)) (unless_words files processes (again_after [] (names_of processes)))
