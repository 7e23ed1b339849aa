-- What stands in a page for the answers of a report, or for the causal cycle that it names.
use Rattle.std.specs.Prelude.{ℕ, List, ◌++◌, codes, decimal, unwrap_or}
use Rattle.def_format.specs.Names.{ProcessNames, process_named}
use Rattle.def_format.specs.Reports.{Answer, Possibly, Definitely, NamedPlace}
use Rattle.out_page.specs.JsonTexts.{listed, quoted}

-- the number of the process of this name, from 0
abbrev pub process_number : List ProcessNames → List ℕ → List ℕ
process_number names name = decimal (unwrap_or (process_named names name) 0)

-- the level by which it is unknown
unfoldable pub unknown_text : ℕ → List ℕ
unknown_text level = codes "[\"unknown\"," ++ decimal level ++ codes "]"

-- the cut's counts of events, or the level
abbrev pub possibly_text : Possibly → List ℕ
possibly_text (Possibly.Yes counts) = codes "[\"yes\",[" ++ listed decimal counts ++ codes "]]"
possibly_text Possibly.No = codes "[\"no\"]"
possibly_text (Possibly.Unknown level) = unknown_text level

-- the process of each event of the observation, or the level
abbrev pub definitely_text : List ProcessNames → Definitely → List ℕ
definitely_text names (Definitely.Yes level) = codes "[\"yes\"," ++ decimal level ++ codes "]"
definitely_text names (Definitely.No path) =
    codes "[\"no\",[" ++ listed (process_number names) path ++ codes "]]"
definitely_text names (Definitely.Unknown level) = unknown_text level

-- the answers for one predicate
unfoldable pub answer_text : List ProcessNames → Answer → List ℕ
answer_text names answer =
    codes "{\"name\":" ++ quoted answer.name ++ codes ",\"possibly\":" ++ possibly_text answer.possibly
    ++ codes ",\"definitely\":" ++ definitely_text names answer.definitely ++ codes "}"

-- an event of a causal cycle, by the number of its process and its own
abbrev pub named_place_text : List ProcessNames → NamedPlace → List ℕ
named_place_text names place =
    codes "[" ++ process_number names place.name ++ codes "," ++ decimal place.number ++ codes "]"

-- What a page shows of a report: the answers of a session that is judged, or the causal cycle of one that is refused
-- for it.
pub data Outcome : Type 0 where
  Answered : List Answer → Outcome
  Cyclic : List NamedPlace → Outcome

abbrev pub outcome_text : List ProcessNames → Outcome → List ℕ
outcome_text names (Answered answers) = codes "\"answers\":[" ++ listed (answer_text names) answers ++ codes "]"
outcome_text names (Cyclic places) = codes "\"cycle\":[" ++ listed (named_place_text names) places ++ codes "]"
