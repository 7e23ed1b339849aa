-- Which refusal the words are of, by the first of them.
use Rattle.std.proofs.Common.{◌≡◌, ℕ, List, ◌∷◌}
use Rattle.std.specs.Prelude.{codes}
use Rattle.def_format.specs.RefusalKinds.{PredicateKind, StreamKind}
use Rattle.def_format.specs.Reports.{Refusal, Predicate, Stream, refusal_words}
use Rattle.pd_report.specs.Reading.{at_fault_words, stream_fault_words, AtFaultIsLawful, IsOfKind, StreamFaultIsLawful}
use Rattle.pd_report.proofs.Pieces.{tail_is}

pub no_predicate : (rest : List (List ℕ))
    → ((fault : ℕ × List ℕ × ℕ) → AtFaultIsLawful fault → ¬ (rest ≡ at_fault_words fault)) → (r : Refusal)
    → IsOfKind PredicateKind r → ¬ (codes "predicate" ∷ rest ≡ refusal_words r)
no_predicate rest none (Predicate number word at) h e = none (number, word, at) h.0 (tail_is _ _ _ _ e)
no_predicate rest none _ h e = absurd (cc)

pub no_stream : (rest : List (List ℕ))
    → ((fault : ℕ × ℕ × List ℕ) → StreamFaultIsLawful fault → ¬ (rest ≡ stream_fault_words fault)) → (r : Refusal)
    → IsOfKind StreamKind r → ¬ (codes "stream" ∷ rest ≡ refusal_words r)
no_stream rest none (Stream stream line word) h e = none (stream, line, word) h.0 (tail_is _ _ _ _ e)
no_stream rest none _ h e = absurd (cc)
