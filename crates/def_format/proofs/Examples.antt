-- The definitions computed on small inputs.
use Rattle.std.proofs.Common.{length, arith, false, ◌≡◌, ℕ, List, [], ◌∷◌, ◌++◌, refl, replicate}
use Rattle.std.specs.Prelude.{◌==◌, codes, Option, Some, None, Result, Ok, Err, pos, ℤ, ⊤}
use Rattle.std.specs.Str.{is_utf8, chars}
use Rattle.std.specs.Fmt.{digits}
use Rattle.serde_json.proofs.OnLiterals.{serde_json_on_literals}
use Rattle.def_model.specs.Events.{Local, Send, Event}
use Rattle.def_format.specs.Limits.{line_byte_limit}
use Rattle.def_format.specs.Lines.{line, line_feed, open_lines, finished_lines, frame_fault, has_line_feed, line_number, LineTooLong}
use Rattle.def_format.proofs.LineFacts.{fault-append, short_is_sound_lem, unended-no_feed}
use Rattle.def_format.specs.Names.{ProcessNames}
use Rattle.def_format.specs.Records.{RecordFault, Json, Shape, Join, UnknownProcess, UnknownVar, Value, MessageId, LineRecord, Joins, Happens, Ends, record_of}
use Rattle.def_format.specs.Readings.{Ended, Open, reading, result_of, Unended}
use Rattle.def_format.specs.Documents as documents
use Rattle.def_format.specs.Documents.{DocumentFault, Options, Outline, inquiry_of, names_of_outline, outline_of_inquiry, outline_within, plain, width_of}
use Rattle.def_format.specs.Sessions.{session, Taken, Absent, bytes_of, Piece, AtEnd, Broken}
use Rattle.def_format.specs.Reports.{Possibly, Definitely, Judged, Refused, Cycle, report_text}
use Rattle.def_format.specs.OtherTexts.{snapshot_text, check_text, NotRead}
use Rattle.def_format.specs.Readings as readings

abbrev pub names : List ProcessNames
names = record { name = codes "a"; vars = codes "x" ∷ [] } ∷ record { name = codes "b"; vars = codes "y" ∷ [] } ∷ []

-- what computing a line's value opens
unfoldable pub on_lines : ⊤
unfolding serde_json_on_literals record_of is_utf8 chars outline_within digits
on_lines = tt

-- ---- lines

pub two_lines : open_lines (codes "ab\n\ncd") ≡ line 1 (codes "ab") ∷ []
two_lines = refl

pub last_line : finished_lines (codes "ab\n \ncd") ≡ line 1 (codes "ab") ∷ line 3 (codes "cd") ∷ []
last_line = refl

-- ---- records, after the join of process a

abbrev after_join : List ℕ → Result LineRecord RecordFault
unfolding record_of
after_join bytes = record_of names (Some 0) bytes

pub half_open : record_of names (Some 0) (codes "{") ≡ Err Json
unfolding on_lines
half_open = refl

pub not_utf8 : record_of names (Some 0) (34 ∷ 255 ∷ 34 ∷ []) ≡ Err Json
unfolding on_lines
not_utf8 = refl

pub other_field : record_of names (Some 0) (codes "{\"put\":1}") ≡ Err Shape
unfolding on_lines
other_field = refl

pub both_ways : record_of names (Some 0) (codes "{\"send\":\"m\",\"recv\":\"k\"}") ≡ Err Shape
unfolding on_lines
both_ways = refl

pub not_true : record_of names (Some 0) (codes "{\"end\":1}") ≡ Err Shape
unfolding on_lines
not_true = refl

pub join_again : record_of names (Some 0) (codes "{\"process\":\"a\"}") ≡ Err Join
unfolding on_lines
join_again = refl

pub text_value : record_of names (Some 0) (codes "{\"set\":{\"x\":\"1\"}}") ≡ Err Value
unfolding on_lines
text_value = refl

pub other_var : record_of names (Some 0) (codes "{\"set\":{\"z\":1}}") ≡ Err UnknownVar
unfolding on_lines
other_var = refl

pub no_id : record_of names (Some 0) (codes "{\"send\":\"\"}") ≡ Err MessageId
unfolding on_lines
no_id = refl

pub long_id : record_of names (Some 0) (codes "{\"send\":\"" ++ replicate 65 97 ++ codes "\"}") ≡ Err MessageId
unfolding on_lines
long_id = refl

pub send_and_set : record_of names (Some 0) (codes "{\"send\":\"m\",\"set\":{\"x\":-7}}\r")
    ≡ Ok (Happens (record { kind = Send (codes "m"); sets = (0, ℤ.negsuc 6) ∷ [] }))
unfolding on_lines
send_and_set = refl

pub the_end : record_of names (Some 0) (codes "{\"end\":true}") ≡ Ok Ends
unfolding on_lines
the_end = refl

-- ---- records, before the join

pub event_first : record_of names None (codes "{}") ≡ Err Join
unfolding on_lines
event_first = refl

pub other_process : record_of names None (codes "{\"process\":\"q\"}") ≡ Err UnknownProcess
unfolding on_lines
other_process = refl

pub second_process : record_of names None (codes "{\"process\":\"b\"}") ≡ Ok (Joins 1)
unfolding on_lines
second_process = refl

-- ---- readings

abbrev local : ℤ → Event
local z = record { kind = Local; sets = (0, z) ∷ [] }

abbrev pub stream_b : List ℕ
stream_b = codes "{\"process\":\"b\"}\n{\"set\":{\"y\":1}}\n{\"set\":{\"y\":0}}\n"

pub whole : result_of (reading names Ended (stream_b ++ codes "{\"end\":true}\n{ x"))
    ≡ Some (Ok (record { process = 1; join_line = 1; events = local (pos 1) ∷ local (pos 0) ∷ [] }))
unfolding on_lines
whole = refl

pub no_end_line : result_of (reading names Ended stream_b) ≡ Some (Err (record { line = 4; kind = Unended }))
unfolding on_lines
no_end_line = refl

pub still_open : result_of (reading names Open stream_b) ≡ None
unfolding on_lines
still_open = refl

-- ---- documents

abbrev pub example_document : List ℕ
example_document =
    codes "{\"processes\":[{\"name\":\"a\",\"vars\":{\"x\":0}},{\"name\":\"b\",\"vars\":{\"y\":0}}],"
    ++ codes "\"predicates\":[{\"name\":\"both\",\"text\":\"a.x == 1 and b.y == 1\"}]}"

abbrev pub with_outline : {A : Type 0} → (Outline → A) → Result Outline DocumentFault → Option A
with_outline f (Ok outline) = Some (f outline)
with_outline f (Err fault) = None

pub names_of_example : with_outline names_of_outline (outline_of_inquiry (plain example_document)) ≡ Some names
unfolding on_lines
names_of_example = refl

pub predicates_of_example : with_outline (λ (o : Outline). o.predicates) (outline_of_inquiry (plain example_document))
    ≡ Some ((codes "both", codes "a.x == 1 and b.y == 1") ∷ [])
unfolding on_lines
predicates_of_example = refl

pub width_of_example : with_outline (λ (o : Outline). width_of o.width) (outline_of_inquiry
    (plain example_document)) ≡ Some 4096
unfolding on_lines
width_of_example = refl

-- what is asked stands in place of what the document says
abbrev asked : Options
asked =
    record { width = Some 7; predicates = codes "a.x == 2" ∷ codes "both=a.x == 1" ∷ []; beyond_width = false }

pub width_asked : with_outline (λ (o : Outline). width_of o.width) (outline_of_inquiry
    (inquiry_of asked example_document))
    ≡ Some 7
unfolding on_lines
width_asked = refl

pub predicates_asked : with_outline (λ (o : Outline). o.predicates) (outline_of_inquiry
    (inquiry_of asked example_document))
    ≡ Some ((codes "ask1", codes "a.x == 2") ∷ (codes "both", codes "a.x == 1") ∷ [])
unfolding on_lines
predicates_asked = refl

pub empty_document : outline_of_inquiry (plain []) ≡ Err documents.Json
unfolding on_lines
empty_document = refl

pub no_processes : outline_of_inquiry (plain (codes
    "{\"processes\":[],\"predicates\":[],\"width\":0}")) ≡ Err documents.Processes
unfolding on_lines
no_processes = refl

pub named_and : outline_of_inquiry (plain (codes
    "{\"processes\":[{\"name\":\"and\",\"vars\":{}}],\"predicates\":[]}"))
    ≡ Err documents.Name
unfolding on_lines
named_and = refl

pub two_of_a : outline_of_inquiry (plain (codes
    "{\"processes\":[{\"name\":\"a\",\"vars\":{}},{\"name\":\"a\",\"vars\":{}}],\"predicates\":[]}"))
    ≡ Err documents.NameTwice
unfolding on_lines
two_of_a = refl

pub text_var : outline_of_inquiry (plain (codes
    "{\"processes\":[{\"name\":\"a\",\"vars\":{\"x\":\"1\"}}],\"predicates\":[]}"))
    ≡ Err documents.Vars
unfolding on_lines
text_var = refl

pub no_predicates : outline_of_inquiry (plain (codes
    "{\"processes\":[{\"name\":\"a\",\"vars\":{}}],\"predicates\":[]}"))
    ≡ Err documents.Predicates
unfolding on_lines
no_predicates = refl

pub width_zero : outline_of_inquiry (plain (codes
    "{\"processes\":[{\"name\":\"a\",\"vars\":{}}],\"predicates\":[{\"name\":\"p\",\"text\":\"\"}],\"width\":0}"))
    ≡ Err documents.Width
unfolding on_lines
width_zero = refl

pub extra_field : outline_of_inquiry (plain (codes
    "{\"processes\":[],\"predicates\":[],\"extra\":0}")) ≡ Err documents.Shape
unfolding on_lines
extra_field = refl

-- ---- texts

pub judged : report_text (Judged 2 4 0 (record {
  name = codes "both";
  possibly = Possibly.Yes (1 ∷ 1 ∷ []);
  definitely =
      Definitely.No (codes "b" ∷ codes "a" ∷ []);
} ∷ []))
    ≡ codes "session 2 processes 4 events 0 messages\nboth possibly yes 1,1\nboth definitely no b,a\n"
unfolding on_lines
judged = refl

pub cycle : report_text (Refused (Cycle (record { name = codes "a"; number = 1 } ∷ record {
  name = codes "b";
  number =
      1;
} ∷ []))) ≡ codes "refused cycle a#1,b#1\n"
unfolding on_lines
cycle = refl

pub fresh : snapshot_text names (record { process = None; events = 0; state = readings.Fresh } ∷ record {
  process =
      Some 1;
  events = 3;
  state = readings.HasEnded;
} ∷ [])
    ≡ codes "stream 1 process - events 0 fresh\nstream 2 process b events 3 ended\n"
unfolding on_lines
fresh = refl

pub not_read : check_text (NotRead 1) ≡ codes "report line 1\n"
unfolding on_lines
not_read = refl

-- ---- a line that is too long

-- a byte that isn't an LF, after as many others as its line may have
pub long_line : (bytes : List ℕ) (byte : ℕ) → has_line_feed bytes ≡ false
    → length bytes ≡ line_byte_limit → (byte == line_feed) ≡ false
    → frame_fault (bytes ++ byte ∷ []) ≡ Some (LineTooLong (line_number bytes))
long_line bytes byte none size other =
    rw (
      fault-append [] bytes (byte ∷ []),
      short_is_sound_lem bytes (omega arith),
      other,
      unended-no_feed bytes none,
      size,
    ) refl

-- ---- sessions

pub two_of_one : session names 2 (Ok (record { process = 0; join_line = 1; events = [] })
    ∷ Ok (record { process = 0; join_line = 1; events = [] }) ∷ []) ≡ Err (Taken 1 1)
two_of_one = refl

pub one_alone : session names 1 (Ok (record { process = 0; join_line = 1; events = [] }) ∷ []) ≡ Err (Absent 1)
one_alone = refl

pub out_of_order : session names 2 (Ok (record { process = 1; join_line = 2; events = [] })
    ∷ Ok (record { process = 0; join_line = 1; events = [] }) ∷ [])
    ≡ Ok (record { process = 0; join_line = 1; events = [] } ∷ record { process = 1; join_line = 2; events = [] } ∷ [])
out_of_order = refl

pub pieces_in_turn : bytes_of 1 ((0, Piece (codes "a")) ∷ (1, Piece (codes "b")) ∷ (0, AtEnd) ∷ (1, Piece (codes "c"))
    ∷ (1, Broken) ∷ (1, Piece (codes "d")) ∷ []) ≡ codes "bc"
pieces_in_turn = refl
