-- A report as one JSON object. The fields of each object stand in byte order of their names.
use Prim.Native.String.{String}
use Rattle.std.specs.Prelude.{ℕ, ℤ, suc, List, [], ◌∷◌, ◌++◌, codes, cond, map, Option, Some, None}
use Rattle.std.specs.Str.{bytes_eq}
use Rattle.serde_json.specs.Data.{Data, number, string, array, object, unsigned, no_items, item, Members, no_members, member, put}
use Rattle.serde_json.specs.Find.{of_integer}
use Rattle.serde_json.specs.View.{items_of}
use Rattle.serde_json.specs.Written.{compact_text}
use Rattle.def_format.specs.Lines.{line_feed}
use Rattle.def_format.specs.Names.{ProcessNames}
use Rattle.def_format.specs.Reports.{Possibly, Definitely, Answer, NamedPlace, Refusal, Spec, Predicate, Streams, Stream, Absent, Match, Cycle, Report, Judged, Refused, report_text}

abbrev pub number_data : ℕ → Data
number_data n = number (unsigned n)

-- a word, as a text
abbrev pub text : String → Data
text word = string (codes word)

-- a field of this name, and more of them
abbrev pub field : (name : String) → Data → Members → Members
field name = member (codes name)

-- a name with a number
abbrev pub pair_data : List ℕ → ℕ → Data
pair_data name n = array (item (string name) (item (number_data n) no_items))

-- ---- answers

-- Each count under the name of its process, put into these fields. What has no partner is left out.
abbrev pub with_counts : List ProcessNames → List ℕ → Members → Members
with_counts [] counts fields = fields
with_counts (process ∷ names) [] fields = fields
with_counts (process ∷ names) (count ∷ counts) fields =
    with_counts names counts (put process.name (number_data count) fields)

abbrev pub cut_data : List ProcessNames → List ℕ → Data
cut_data names counts = object (with_counts names counts no_members)

-- ---- what is known of a cut

-- What is known of a process at a cut: the name of the file and the number of the line in which the last of its events
-- in the cut was recorded, and what variables of it are worth, each by its name.
pub record ProcessAt : Type 0 where
  pub process : List ℕ
  pub recorded : Option (List ℕ × ℕ)
  pub values : List (List ℕ × ℤ)

-- what is known of the processes at the cut with these counts, which is that of the predicate of this name
abbrev pub Places : Type 0
Places = (name counts : List ℕ) → Option (List ProcessAt)

-- nothing is known of any cut
abbrev pub nowhere : Places
nowhere name counts = None

-- each of these values under its name, put into these fields
abbrev pub put_all : List (List ℕ × Data) → Members → Members
put_all [] fields = fields
put_all ((name, value) ∷ others) fields = put_all others (put name value fields)

abbrev pub value_field : List ℕ × ℤ → List ℕ × Data
value_field (name, value) = (name, number (of_integer value))

abbrev pub values_data : List (List ℕ × ℤ) → Data
values_data values = object (put_all (map value_field values) no_members)

-- the file and the line, if they are known, before more fields
abbrev pub recorded_in : Option (List ℕ × ℕ) → Members → Members
recorded_in None more = more
recorded_in (Some (file, line)) more = field "file" (string file) (field "line" (number_data line) more)

abbrev pub process_field : ProcessAt → List ℕ × Data
process_field known =
    (known.process, object (recorded_in known.recorded (field "values" (values_data known.values) no_members)))

-- what is known of a cut, if anything is, before more fields
abbrev pub placed : Option (List ProcessAt) → Members → Members
placed None more = more
placed (Some known) more = field "at" (object (put_all (map process_field known) no_members)) more

-- ---- answers

-- how many events of the process of this name follow one another
pub record Run : Type 0 where
  pub name : List ℕ
  pub count : ℕ

-- the runs of events of which the first ones are this many of the process of this name, and the others are these
abbrev pub runs_from : List ℕ → ℕ → List (List ℕ) → List Run
runs_from name count [] = record { name = name; count = count } ∷ []
runs_from name count (next ∷ others) =
    cond (bytes_eq next name) (runs_from name (suc count) others)
    (record { name = name; count = count } ∷ runs_from next 1 others)

-- the runs of an observation's events, which are given by the names of their processes
abbrev pub runs : List (List ℕ) → List Run
runs [] = []
runs (name ∷ others) = runs_from name 1 others

abbrev pub run_data : Run → Data
run_data run = pair_data run.name run.count

-- an answer of this word, and what stands beside it
abbrev pub answered : (word : String) → Members → Data
answered word more = object (field "answer" (text word) more)

-- that the cut with these counts satisfies, and what is known of it
abbrev pub yes_data : List ProcessNames → (known_at : List ℕ → Option (List ProcessAt)) → (counts : List ℕ) → Data
yes_data names known_at counts =
    answered "yes" (placed (known_at counts) (field "cut" (cut_data names counts) no_members))

abbrev pub possibly_data : List ProcessNames → (known_at : List ℕ → Option (List ProcessAt)) → Possibly → Data
possibly_data names known_at (Possibly.Yes counts) = yes_data names known_at counts
possibly_data names known_at Possibly.No = answered "no" no_members
possibly_data names known_at (Possibly.Unknown level) =
    answered "unknown" (field "level" (number_data level) no_members)

abbrev pub definitely_data : Definitely → Data
definitely_data (Definitely.Yes level) = answered "yes" (field "level" (number_data level) no_members)
definitely_data (Definitely.No path) =
    answered "no" (field "path" (array (items_of (map run_data (runs path)))) no_members)
definitely_data (Definitely.Unknown level) = answered "unknown" (field "level" (number_data level) no_members)

abbrev pub answer_data : List ProcessNames → Places → Answer → Data
answer_data names places answer =
    object (field "definitely" (definitely_data answer.definitely) (field "name" (string answer.name)
    (field "possibly" (possibly_data names (places answer.name) answer.possibly) no_members)))

-- ---- refusals

abbrev pub place_data : NamedPlace → Data
place_data place = pair_data place.name place.number

abbrev pub refusal_data : Refusal → Data
refusal_data (Spec word) = object (field "family" (text "document") (field "word" (string word) no_members))
refusal_data (Predicate n word at) =
    object (field "at" (number_data at) (field "family" (text "predicate") (field "predicate" (number_data n)
    (field "word" (string word) no_members))))
refusal_data Streams = object (field "family" (text "streams") no_members)
refusal_data (Stream stream line word) =
    object (field "family" (text "stream") (field "line" (number_data line) (field "stream" (number_data stream)
    (field "word" (string word) no_members))))
refusal_data (Absent name) = object (field "family" (text "absent") (field "process" (string name) no_members))
refusal_data (Match word place) =
    object (field "event" (number_data place.number) (field "family" (text "match")
    (field "process" (string place.name) (field "word" (string word) no_members))))
refusal_data (Cycle places) =
    object (field "events" (array (items_of (map place_data places))) (field "family" (text "cycle") no_members))

-- ---- the report

-- The field `format` has the version of this format. The names are those of the session's processes, to which the
-- counts of cuts belong.
abbrev pub json_at : (names : List ProcessNames) → Places → Report → Data
json_at names places (Judged processes events messages answers) =
    object (field "events" (number_data events) (field "format" (number_data 1) (field "messages" (number_data messages)
    (field "outcome" (text "judged") (field "predicates" (array (items_of (map (answer_data names places) answers)))
    (field "processes" (number_data processes)
    (field "report" (string (report_text (Judged processes events messages answers))) no_members)))))))
json_at names places (Refused refusal) =
    object (field "format" (number_data 1) (field "outcome" (text "refused") (field "refusal" (refusal_data refusal)
    (field "report" (string (report_text (Refused refusal))) no_members))))

-- the object without spaces, in one line
abbrev pub json_text_at : (names : List ProcessNames) → Places → Report → List ℕ
json_text_at names places report = compact_text (json_at names places report) ++ line_feed ∷ []

-- the same if nothing is known of any cut
abbrev pub json_of : (names : List ProcessNames) → Report → Data
json_of names report = json_at names nowhere report

abbrev pub json_text : (names : List ProcessNames) → Report → List ℕ
json_text names report = json_text_at names nowhere report
