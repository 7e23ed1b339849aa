-- What is known of the cuts of a session's answers: where the last events of each process in a cut were recorded, and
-- what the variables are worth there that the answer's predicate names.
use Rattle.std.specs.Prelude.{ℕ, suc, ℤ, List, [], ◌∷◌, length, map, position, slice_get, slice_index, slice_index_or, Option, option_and_then, option_map}
use Rattle.std.specs.Str.{bytes_eq}
use Rattle.def_model.specs.Events.{Computation, numbered}
use Rattle.def_model.specs.Predicates.{Predicate, Recorded, state_at}
use Rattle.def_format.specs.Documents.{Document, NamedPredicate}
use Rattle.def_format.specs.Names.{ProcessNames}
use Rattle.judge_facts.specs.Values.{named_values}
use Rattle.out_json.specs.JsonReports.{Places, ProcessAt}
use Rattle.out_page.specs.SourceData.{Source}

-- the first predicate of this name
abbrev pub predicate_named : List NamedPredicate → List ℕ → Option NamedPredicate
predicate_named predicates name =
    option_and_then (slice_get predicates)
    (position (λ (predicate : NamedPredicate). bytes_eq predicate.name name) predicates)

-- the file and the line of a process's event with this number, counted from 1, if there is one and they are known
abbrev pub recorded_at : Source → ℕ → Option (List ℕ × ℕ)
recorded_at source number = option_map (λ line. (source.name, line)) (numbered source.lines number)

-- where the events of the process with this number were recorded
abbrev pub source_at : List Source → ℕ → Source
source_at sources p = slice_index_or sources p (record { name = []; lines = [] })

-- the names of no process
abbrev pub nobody : ProcessNames
nobody = record { name = []; vars = [] }

-- a variable's value under its name
abbrev pub under_name : (vars : List (List ℕ)) → ℕ × ℤ → List ℕ × ℤ
under_name vars (v, value) = (slice_index_or vars v [], value)

-- what is known of a process of this number and these names at a cut
abbrev pub process_at : Predicate → (state : ℕ → ℕ → ℤ) → List Source → (counts : List ℕ) → (p : ℕ) → ProcessNames
    → ProcessAt
process_at predicate state sources counts p process = record {
  process = process.name;
  recorded = recorded_at (source_at sources p) (slice_index counts p);
  values = map (under_name process.vars) (named_values predicate state p (length process.vars));
}

-- the same of processes, of which the first has this number
abbrev pub processes_at : Predicate → (state : ℕ → ℕ → ℤ) → List Source → (counts : List ℕ) → (p : ℕ)
    → List ProcessNames → List ProcessAt
processes_at predicate state sources counts p [] = []
processes_at predicate state sources counts p (process ∷ others) =
    process_at predicate state sources counts p process ∷ processes_at predicate state sources counts (suc p) others

-- by the processes, the predicates, where events were recorded, and what was recorded
abbrev pub known_by : List ProcessNames → List NamedPredicate → List Source → Recorded → Places
known_by names predicates sources recorded name counts =
    option_map (λ (predicate : NamedPredicate).
    processes_at predicate.predicate (state_at recorded.initial recorded.events counts) sources counts 0 names)
    (predicate_named predicates name)

-- the same of a document and its events
abbrev pub known_at : Document → List Source → Computation → Places
known_at document sources events =
    known_by document.names document.predicates sources (record { initial = document.initial; events = events })
