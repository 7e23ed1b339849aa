-- What reading gives.
use Rattle.std.specs.Prelude.{◌≡◌, ◌==◌, ℕ, ◌+◌, ◌<◌, ◌≤◌, List, [], ◌∷◌, ◌++◌, codes, decimal, length, map, take, string_bytes, IsTrue, Option, None, Some, Result, MatchResult}
use Rattle.std.specs.List.{slice_split}
use Rattle.std.specs.Option.{MatchOption}
use Rattle.std.specs.declared.alloc.Global.{Global}
use Rattle.std.specs.declared.string.String.{String}
use Rattle.def_format.specs.Reports as reports
use Rattle.def_format.specs.Reports.{IsLawful, RefusalIsLawful, definitely_words, possibly_words, predicate_words, refusal_words, report_lines, spaced, stream_words, Fits, IsName, PossiblyIsLawful}
use Rattle.def_format.specs.Lists.{is_one_of}
use Rattle.def_format.specs.RefusalKinds.{RefusalKind, refusal_kind}
use Rattle.pd_report.specs.Views.{possibly_view}
use Rattle.pd_report.specs.declared.possibly.Possibly.{Possibly}
use denote.Ref.{Bor}

-- the pieces of bytes between these
abbrev pub pieces : ℕ → List ℕ → List (List ℕ)
pieces at bytes = slice_split (λ b. b == at) bytes

-- slices, as the bytes that they hold
abbrev pub slices_view : List (Bor (List ℕ)) → List (List ℕ)
slices_view slices = map (λ slice. slice.now) slices

-- the words of what remains of bytes, if something does
abbrev pub pieces_if : ℕ → Option (Bor (List ℕ)) → List (List ℕ)
pieces_if at None = []
pieces_if at (Some rest) = pieces at rest.now

-- The value is found that is lawful and has this text. If none has, nothing is found.
abbrev pub IsFoundAs : {X V T : Type 0} → (X → V) → (V → T) → (V → Type 0) → T → Option X → Type 0
IsFoundAs {V = V} view text Lawful reported found =
    MatchOption found ((v : V) → Lawful v → ¬ (reported ≡ text v)) (λ x. Lawful (view x) × (reported ≡ text (view x)))

-- some lawful value has this text
abbrev pub IsTextOf : {V T : Type 0} → (V → T) → (V → Type 0) → T → Type 0
IsTextOf {V = V} text Lawful reported = (v : V) × Lawful v × (reported ≡ text v)

-- What is read is what is found. An allocation is refused only for a value that is there.
abbrev pub IsReadAs : {X V T E : Type 0} → (X → V) → (V → T) → (V → Type 0) → T → Result (Option X) E → Type 0
IsReadAs view text Lawful reported result =
    MatchResult result (IsFoundAs view text Lawful reported) (λ _. IsTextOf text Lawful reported)

-- an answer's first line: the name, and whether the predicate possibly holds
abbrev pub first_part_view : String Global × Possibly → List ℕ × reports.Possibly
first_part_view line = (string_bytes line.0, possibly_view line.1)

abbrev pub first_text : List ℕ × reports.Possibly → List ℕ
first_text line = spaced (line.0 ∷ codes "possibly" ∷ possibly_words line.1)

abbrev pub FirstIsLawful : List ℕ × reports.Possibly → Type 0
FirstIsLawful line = IsName line.0 × PossiblyIsLawful line.1

-- an answer's second line, under this name
abbrev pub second_text : List ℕ → reports.Definitely → List ℕ
second_text name definitely = spaced (name ∷ codes "definitely" ∷ definitely_words definitely)

-- the counts of processes, events and messages
abbrev pub counts_words : ℕ × ℕ × ℕ → List (List ℕ)
counts_words counts = codes "session" ∷ decimal counts.0 ∷ codes "processes" ∷ decimal counts.1 ∷ codes "events"
    ∷ decimal counts.2 ∷ codes "messages" ∷ []

abbrev pub counts_text : ℕ × ℕ × ℕ → List ℕ
counts_text counts = spaced (counts_words counts)

abbrev pub CountsFit : ℕ × ℕ × ℕ → Type 0
CountsFit counts = Fits counts.0 × Fits counts.1 × Fits counts.2

-- a predicate's number, the word of its fault, and the byte at fault
abbrev pub at_fault_view : ℕ × String Global × ℕ → ℕ × List ℕ × ℕ
at_fault_view fault = (fault.0, string_bytes fault.1, fault.2)

abbrev pub at_fault_words : ℕ × List ℕ × ℕ → List (List ℕ)
at_fault_words fault = decimal fault.0 ∷ fault.1 ∷ codes "at" ∷ decimal fault.2 ∷ []

abbrev pub AtFaultIsLawful : ℕ × List ℕ × ℕ → Type 0
AtFaultIsLawful fault = (1 ≤ fault.0) × Fits fault.0 × IsTrue (is_one_of predicate_words fault.1) × Fits fault.2

-- a stream's number, the number of its line at fault, and the word of its fault
abbrev pub stream_fault_view : ℕ × ℕ × String Global → ℕ × ℕ × List ℕ
stream_fault_view fault = (fault.0, fault.1, string_bytes fault.2)

abbrev pub stream_fault_words : ℕ × ℕ × List ℕ → List (List ℕ)
stream_fault_words fault = decimal fault.0 ∷ codes "line" ∷ decimal fault.1 ∷ fault.2 ∷ []

abbrev pub StreamFaultIsLawful : ℕ × ℕ × List ℕ → Type 0
StreamFaultIsLawful fault = Fits fault.0 × Fits fault.1 × IsTrue (is_one_of stream_words fault.2)

abbrev pub refused_text : reports.Refusal → List ℕ
refused_text refusal = spaced (codes "refused" ∷ refusal_words refusal)

abbrev pub IsOfKind : RefusalKind → reports.Refusal → Type 0
IsOfKind kind refusal = RefusalIsLawful refusal × (refusal_kind refusal ≡ kind)

-- some lawful report begins with these lines
pub record Begins (lines : List (List ℕ)) : Type 0 where
  pub report : reports.Report
  pub lawful : IsLawful report
  pub rest : List (List ℕ)
  pub begins : report_lines report ≡ lines ++ rest

-- The lines are those of no report. Some report begins with this many of them, and if there are more, none with one
-- more.
pub record StopsAfter (lines : List (List ℕ)) (count : ℕ) : Type 0 where
  pub no_report : (report : reports.Report) → IsLawful report → ¬ (lines ≡ report_lines report)
  pub there : count ≤ length lines
  pub before : Begins (take count lines)
  pub here : count < length lines → ¬ (Begins (take (count + 1) lines))
