-- What the program's reports stand for.
use Rattle.std.specs.Prelude.{ℕ, List, [], ◌∷◌, ◌++◌, codes, decimal, flat_map, map, string_bytes}
use Rattle.def_format.specs.Lines.{line_feed}
use Rattle.def_format.specs.Reports.{NamedPlace, answer_lines, definitely_words, possibly_words, spaced, text_of_lines}
use Rattle.def_format.specs.Reports as reports
use Rattle.pd_report.specs.declared.answer.Answer.{Answer}
use Rattle.pd_report.specs.declared.possibly.Possibly.{Possibly}
use Rattle.pd_report.specs.declared.possibly.Possibly.TheVariants as possibly
use Rattle.pd_report.specs.declared.definitely.Definitely.{Definitely}
use Rattle.pd_report.specs.declared.definitely.Definitely.TheVariants as definitely
use Rattle.pd_report.specs.declared.refusal.Refusal.{Refusal}
use Rattle.pd_report.specs.declared.refusal.Refusal.TheVariants.{Spec, Predicate, Streams, Stream, Absent, Match, Cycle}
use Rattle.pd_report.specs.declared.report.Report.{Report}
use Rattle.pd_report.specs.declared.report.Report.TheVariants.{Judged, Refused}
use Rattle.std.specs.declared.alloc.Global.{Global}
use Rattle.std.specs.declared.string.String.{String}
use denote.Ref.{Bor}

abbrev pub possibly_view : Possibly → reports.Possibly
possibly_view (possibly.Yes counts) = reports.Possibly.Yes counts.items
possibly_view possibly.No = reports.Possibly.No
possibly_view (possibly.Unknown level) = reports.Possibly.Unknown level

abbrev pub definitely_view : Definitely → reports.Definitely
definitely_view (definitely.Yes level) = reports.Definitely.Yes level
definitely_view (definitely.No path) = reports.Definitely.No path
definitely_view (definitely.Unknown level) = reports.Definitely.Unknown level

abbrev pub answer_view : Answer → reports.Answer
answer_view answer = record {
  name = string_bytes answer.name;
  possibly = possibly_view answer.possibly;
  definitely =
      definitely_view answer.definitely;
}

abbrev pub named_place_view : String Global × ℕ → NamedPlace
named_place_view place = record { name = string_bytes place.0; number = place.1 }

-- an event where it stands in bytes
abbrev pub place_view : Bor (List ℕ) × ℕ → NamedPlace
place_view place = record { name = place.0.now; number = place.1 }

abbrev pub named_places_view : List (String Global × ℕ) → List NamedPlace
named_places_view places = map named_place_view places

abbrev pub refusal_view : Refusal → reports.Refusal
refusal_view (Spec word) = reports.Spec (string_bytes word)
refusal_view (Predicate k word at) = reports.Predicate k (string_bytes word) at
refusal_view Streams = reports.Streams
refusal_view (Stream stream line word) = reports.Stream stream line (string_bytes word)
refusal_view (Absent name) = reports.Absent (string_bytes name)
refusal_view (Match word name number) =
    reports.Match (string_bytes word) (record { name = string_bytes name; number = number })
refusal_view (Cycle places) = reports.Cycle (named_places_view places.items)

abbrev pub report_view : Report → reports.Report
report_view (Judged processes events messages answers) =
    reports.Judged processes events messages (map answer_view answers.items)
report_view (Refused refusal) = reports.Refused (refusal_view refusal)

-- the line that counts what a session has, with its LF
abbrev pub session_text : (processes events messages : ℕ) → List ℕ
session_text processes events messages =
    spaced (codes "session" ∷ decimal processes ∷ codes "processes" ∷ decimal events ∷ codes "events" ∷ decimal messages
    ∷ codes "messages" ∷ []) ++ line_feed ∷ []

-- an answer's first line
abbrev pub possibly_line : reports.Answer → List ℕ
possibly_line answer = answer.name ++ (codes " possibly " ++ spaced (possibly_words answer.possibly))

-- an answer's second line
abbrev pub definitely_line : reports.Answer → List ℕ
definitely_line answer = answer.name ++ (codes " definitely " ++ spaced (definitely_words answer.definitely))

-- the lines of answers, each with its LF
abbrev pub answers_text : List Answer → List ℕ
answers_text answers = flat_map (λ answer. text_of_lines (answer_lines (answer_view answer))) answers
