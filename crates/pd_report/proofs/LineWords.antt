-- The words of a report's lines.
use Rattle.std.proofs.Common.{◌≡◌, ℕ, List, [], ◌∷◌, ◌++◌, None, Some, Option, Ok, Err, Result, refl, sym, ap, ◌∙◌}
use Rattle.std.specs.Prelude.{codes, decimal}
use Rattle.std.specs.List.{AllByRecursion}
use Rattle.def_format.specs.Reports as reports
use Rattle.def_format.specs.Reports.{Definitely, Refusal, RefusalIsLawful, DefinitelyIsLawful, Fits, IsName, definitely_words, possibly_words, refusal_words, spaced}
use Rattle.def_format.proofs.OneReport.{Lacks, Plain, plain_lacks, name_plain, possibly_plain, definitely_plain, refused_line, session_line}
use Rattle.pd_report.specs.Reading.{first_text, pieces, second_text, FirstIsLawful, IsFoundAs, IsReadAs}
use Rattle.pd_report.proofs.Pieces.{pieces_of_joined, joined_of_pieces}

plain_words : (words : List (List ℕ)) → AllByRecursion Plain words → AllByRecursion (Lacks 32) words
plain_words [] h = tt
plain_words (w ∷ words) h = (plain_lacks 32 refl w h.0, plain_words words h.1)

words_of : (line w : List ℕ) (ws : List (List ℕ)) → AllByRecursion Plain (w ∷ ws) → line ≡ spaced (w ∷ ws)
    → pieces 32 line ≡ w ∷ ws
words_of line w ws h e = pieces_of_joined 32 line w ws (plain_words (w ∷ ws) h) e

pub first_words : (line : List ℕ) (v : List ℕ × reports.Possibly) → FirstIsLawful v → line ≡ first_text v
    → pieces 32 line ≡ v.0 ∷ codes "possibly" ∷ possibly_words v.1
first_words line v h e =
    words_of line v.0 (codes "possibly" ∷ possibly_words v.1) (name_plain v.0 h.0, (refl, possibly_plain v.1 h.1)) e

pub second_words : (line name : List ℕ) → IsName name → (d : Definitely) → DefinitelyIsLawful d
    → line ≡ second_text name d → pieces 32 line ≡ name ∷ codes "definitely" ∷ definitely_words d
second_words line name n d h e =
    words_of line name (codes "definitely" ∷ definitely_words d) (name_plain name n, (refl, definitely_plain d h)) e

-- what is reported of the words of a line is reported of the line
pub found_line : {X V : Type 0} (view : X → V) (words : V → List (List ℕ)) (P : V → Type 0) (prefix : List (List ℕ))
    (line : List ℕ) (rest : List (List ℕ)) → pieces 32 line ≡ prefix ++ rest
    → ((v : V) → P v → line ≡ spaced (prefix ++ words v) → pieces 32 line ≡ prefix ++ words v)
    → ((v : V) → prefix ++ rest ≡ prefix ++ words v → rest ≡ words v)
    → (found : Option X) → IsFoundAs view words P rest found
    → IsFoundAs view (λ v. spaced (prefix ++ words v)) P line found
found_line view words P prefix line rest cut taken following None h =
    λ v l e. h v l (following v (sym cut ∙ taken v l e))
found_line view words P prefix line rest cut taken following (Some x) h =
    (h.0, joined_of_pieces 32 line (prefix ++ words (view x)) (cut ∙ ap (λ ws. prefix ++ ws) h.1))

-- and what is read of the words of a line is read of the line
pub read_line : {X V E : Type 0} (view : X → V) (words : V → List (List ℕ)) (P : V → Type 0) (prefix : List (List ℕ))
    (line : List ℕ) (rest : List (List ℕ)) → pieces 32 line ≡ prefix ++ rest
    → ((v : V) → P v → line ≡ spaced (prefix ++ words v) → pieces 32 line ≡ prefix ++ words v)
    → ((v : V) → prefix ++ rest ≡ prefix ++ words v → rest ≡ words v)
    → (result : Result (Option X) E) → IsReadAs view words P rest result
    → IsReadAs view (λ v. spaced (prefix ++ words v)) P line result
read_line view words P prefix line rest cut taken following (Ok found) read =
    found_line view words P prefix line rest cut taken following found read
read_line view words P prefix line rest cut taken following (Err e) there = (
  there.0,
  there.1,
  joined_of_pieces 32 line (prefix ++ words there.0) (cut ∙ ap (λ ws. prefix ++ ws) there.2),
)

pub refused_words : (line : List ℕ) (r : Refusal) → RefusalIsLawful r
    → line ≡ spaced (codes "refused" ∷ refusal_words r) → pieces 32 line ≡ codes "refused" ∷ refusal_words r
refused_words line r h e = words_of line (codes "refused") (refusal_words r) (refused_line r h) e

pub session_words : (line : List ℕ) (p e m : ℕ) → Fits p → Fits e → Fits m
    → line ≡ spaced (codes "session" ∷ decimal p ∷ codes "processes" ∷ decimal e ∷ codes "events" ∷ decimal m
    ∷ codes "messages" ∷ [])
    → pieces 32 line ≡ codes "session" ∷ decimal p ∷ codes "processes" ∷ decimal e ∷ codes "events" ∷ decimal m
    ∷ codes "messages" ∷ []
session_words line p e m h k l q = words_of line (codes "session") _ (session_line p e m h k l) q
