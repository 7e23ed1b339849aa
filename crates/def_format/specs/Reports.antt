-- A report, its text, and where bytes stop being one.
use Rattle.std.specs.Prelude.{◌≡◌, ℕ, ◌<◌, ◌≤◌, ◌^◌, IsTrue, List, [], ◌∷◌, ◌++◌, length, take, map, flat_map, codes, decimal}
use Rattle.std.specs.List.{AllByRecursion, join_with_byte}
use Rattle.def_format.specs.Lists.{is_one_of}
use Rattle.def_format.specs.Names.{is_name}
use Rattle.def_format.specs.Lines.{ended_lines, line_feed}
use Rattle.def_format.specs.Limits.{predicate_limit}

-- whether some consistent cut satisfies
pub data Possibly : Type 0 where
  -- the counts of such a cut
  Yes : List ℕ → Possibly
  No : Possibly
  -- the least level with more cuts than the width
  Unknown : ℕ → Possibly

-- whether every observation passes through such a cut
pub data Definitely : Type 0 where
  -- the least level with no avoiding cut
  Yes : ℕ → Definitely
  -- the names of the processes of an avoiding observation, in the order of its events
  No : List (List ℕ) → Definitely
  -- the least level with more avoiding cuts than the width
  Unknown : ℕ → Definitely

pub record Answer : Type 0 where
  pub name : List ℕ
  pub possibly : Possibly
  pub definitely : Definitely

-- a process's name, and the number of one of its events
pub record NamedPlace : Type 0 where
  pub name : List ℕ
  pub number : ℕ

pub data Refusal : Type 0 where
  Spec : (word : List ℕ) → Refusal
  Predicate : (number : ℕ) (word : List ℕ) (at : ℕ) → Refusal
  Streams : Refusal
  Stream : (stream line : ℕ) (word : List ℕ) → Refusal
  Absent : (name : List ℕ) → Refusal
  Match : (word : List ℕ) (place : NamedPlace) → Refusal
  Cycle : (places : List NamedPlace) → Refusal

pub data Report : Type 0 where
  Judged : (processes events messages : ℕ) (answers : List Answer) → Report
  Refused : Refusal → Report

-- ---- the text

-- words with a space between each two
abbrev pub spaced : List (List ℕ) → List ℕ
spaced words = join_with_byte 32 words

abbrev pub with_commas : List (List ℕ) → List ℕ
with_commas words = join_with_byte 44 words

abbrev pub possibly_words : Possibly → List (List ℕ)
possibly_words (Possibly.Yes counts) = codes "yes" ∷ with_commas (map decimal counts) ∷ []
possibly_words Possibly.No = codes "no" ∷ []
possibly_words (Possibly.Unknown level) = codes "unknown" ∷ decimal level ∷ []

-- `-` stands for an empty path
abbrev pub path_text : List (List ℕ) → List ℕ
path_text [] = codes "-"
path_text (name ∷ others) = with_commas (name ∷ others)

abbrev pub definitely_words : Definitely → List (List ℕ)
definitely_words (Definitely.Yes level) = codes "yes" ∷ decimal level ∷ []
definitely_words (Definitely.No path) = codes "no" ∷ path_text path ∷ []
definitely_words (Definitely.Unknown level) = codes "unknown" ∷ decimal level ∷ []

abbrev pub answer_lines : Answer → List (List ℕ)
answer_lines answer =
    spaced (answer.name ∷ codes "possibly" ∷ possibly_words answer.possibly)
    ∷ spaced (answer.name ∷ codes "definitely" ∷ definitely_words answer.definitely)
    ∷ []

abbrev pub place_text : NamedPlace → List ℕ
place_text place = place.name ++ (codes "#" ++ decimal place.number)

abbrev pub refusal_words : Refusal → List (List ℕ)
refusal_words (Spec word) = codes "spec" ∷ word ∷ []
refusal_words (Predicate number word at) = codes "predicate" ∷ decimal number ∷ word ∷ codes "at" ∷ decimal at ∷ []
refusal_words Streams = codes "streams" ∷ []
refusal_words (Stream stream line word) = codes "stream" ∷ decimal stream ∷ codes "line" ∷ decimal line ∷ word ∷ []
refusal_words (Absent name) = codes "absent" ∷ name ∷ []
refusal_words (Match word place) = word ∷ place_text place ∷ []
refusal_words (Cycle places) = codes "cycle" ∷ with_commas (map place_text places) ∷ []

abbrev pub report_lines : Report → List (List ℕ)
report_lines (Judged processes events messages answers) =
    spaced (codes "session" ∷ decimal processes ∷ codes "processes" ∷ decimal events ∷ codes "events" ∷ decimal messages
    ∷ codes "messages" ∷ [])
    ∷ flat_map answer_lines answers
report_lines (Refused refusal) = spaced (codes "refused" ∷ refusal_words refusal) ∷ []

-- lines, each with an LF after it
abbrev pub text_of_lines : List (List ℕ) → List ℕ
text_of_lines lines = flat_map (λ line. line ++ line_feed ∷ []) lines

abbrev pub report_text : Report → List ℕ
report_text report = text_of_lines (report_lines report)

-- ---- lawful reports

abbrev pub spec_words : List (List ℕ)
spec_words = codes "long" ∷ codes "json" ∷ codes "shape" ∷ codes "processes" ∷ codes "name" ∷ codes "nametwice"
    ∷ codes "vars" ∷ codes "predicates" ∷ codes "width" ∷ codes "version" ∷ []

abbrev pub predicate_words : List (List ℕ)
predicate_words = codes "long" ∷ codes "character" ∷ codes "number" ∷ codes "expected" ∷ codes "unknownname"
    ∷ codes "depth" ∷ []

abbrev pub stream_words : List (List ℕ)
stream_words = codes "linetoolong" ∷ codes "streamtoolong" ∷ codes "json" ∷ codes "shape" ∷ codes "join"
    ∷ codes "unknownprocess" ∷ codes "unknownvar" ∷ codes "value" ∷ codes "messageid" ∷ codes "events" ∷ codes "unended"
    ∷ codes "read" ∷ codes "taken" ∷ []

abbrev pub match_words : List (List ℕ)
match_words = codes "sendtwice" ∷ codes "orphan" ∷ codes "selfmessage" ∷ codes "receivedtwice" ∷ []

abbrev pub Fits : ℕ → Type 0
Fits n = n < 2 ^ 64

abbrev pub IsName : List ℕ → Type 0
IsName name = IsTrue (is_name name)

abbrev pub PossiblyIsLawful : Possibly → Type 0
PossiblyIsLawful (Possibly.Yes counts) = (0 < length counts) × AllByRecursion Fits counts
PossiblyIsLawful Possibly.No = Unit {0}
PossiblyIsLawful (Possibly.Unknown level) = Fits level

abbrev pub DefinitelyIsLawful : Definitely → Type 0
DefinitelyIsLawful (Definitely.Yes level) = Fits level
DefinitelyIsLawful (Definitely.No path) = AllByRecursion IsName path
DefinitelyIsLawful (Definitely.Unknown level) = Fits level

abbrev pub AnswerIsLawful : Answer → Type 0
AnswerIsLawful answer = IsName answer.name × PossiblyIsLawful answer.possibly × DefinitelyIsLawful answer.definitely

abbrev pub PlaceIsLawful : NamedPlace → Type 0
PlaceIsLawful place = IsName place.name × Fits place.number

abbrev pub RefusalIsLawful : Refusal → Type 0
RefusalIsLawful (Spec word) = IsTrue (is_one_of spec_words word)
RefusalIsLawful (Predicate number word at) = (1 ≤ number) × Fits number × IsTrue (is_one_of predicate_words word)
    × Fits at
RefusalIsLawful Streams = Unit {0}
RefusalIsLawful (Stream stream line word) = Fits stream × Fits line × IsTrue (is_one_of stream_words word)
RefusalIsLawful (Absent name) = IsName name
RefusalIsLawful (Match word place) = IsTrue (is_one_of match_words word) × PlaceIsLawful place
RefusalIsLawful (Cycle places) = (0 < length places) × AllByRecursion PlaceIsLawful places

-- 1 answer at least, and no more than a document may have predicates; and names, words and numbers of 64 bits in their
-- places. Predicates count from 1.
abbrev pub IsLawful : Report → Type 0
IsLawful (Judged processes events messages answers) =
    Fits processes × Fits events × Fits messages × (1 ≤ length answers) × (length answers ≤ predicate_limit)
    × AllByRecursion AnswerIsLawful answers
IsLawful (Refused refusal) = RefusalIsLawful refusal

-- ---- reading

-- the bytes are this report's text
abbrev pub IsReport : List ℕ → Report → Type 0
IsReport bytes report = IsLawful report × (bytes ≡ report_text report)

-- there are this many lines, each with its LF, and some report begins with them
pub record Agrees (bytes : List ℕ) (lines : ℕ) : Type 0 where
  pub report : Report
  pub lawful : IsLawful report
  pub are_there : lines ≤ length (ended_lines bytes)
  pub rest : List ℕ
  pub begins : report_text report ≡ text_of_lines (take lines (ended_lines bytes)) ++ rest

-- the bytes are no report, and this line is the first with which they stop being one
pub record IsNoReport (bytes : List ℕ) (line : ℕ) : Type 0 where
  pub no_report : (report : Report) → ¬ (IsReport bytes report)
  pub before : (earlier : ℕ) → earlier < line → Agrees bytes earlier
  pub here : ¬ (Agrees bytes line)
