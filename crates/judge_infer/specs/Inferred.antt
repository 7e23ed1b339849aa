-- What the lines of a stream say one after another, and what is wrong with the first that is refused.
use Rattle.std.specs.Prelude.{ℕ, suc, ◌+◌, Bool, true, false, not, nat_le, nat_lt, if◌then◌else◌, List, [], ◌∷◌, ◌++◌, length, codes, Option, Some, None, is_some, option_and_then, Result, Ok, Err}
use Rattle.std.specs.Str.{is_utf8}
use Rattle.std.specs.List.{list_all}
use Rattle.json.specs.Json as json
use Rattle.json.specs.Find.{get, as_object}
use Rattle.serde_json.specs.Data.{Data, Members}
use Rattle.def_model.specs.Events.{Kind}
use Rattle.def_format.specs.Lines.{all_lines, is_blank}
use Rattle.def_format.specs.Limits.{event_limit, line_byte_limit, stream_byte_limit, var_limit}
use Rattle.def_format.specs.Lists.{is_one_of}
use Rattle.def_format.specs.Names.{is_name}
use Rattle.judge_infer.specs.Streams.{Found, Process, in_line, member_names, with_receipt}
use Rattle.def_format.specs.Records.{Statement, SaysEnd, SaysEvent, SaysJoin, id_fits, json_value, statement_of, values, whole_number}

-- what is wrong with a stream
pub data Wrong : Type 0 where
  -- it has more bytes than a stream may
  StreamTooLong : Wrong
  -- it has no line that says whose it is
  NoLine : Wrong
  -- the line has more bytes than a line may
  LineTooLong : Wrong
  -- the line isn't JSON, and another one that isn't blank comes after it
  Json : Wrong
  -- the line's value has none of the shapes of a record
  Shape : Wrong
  -- the first record doesn't say the process
  NoJoin : Wrong
  -- a later record says a process
  SecondJoin : Wrong
  -- the name of the process is no name
  ProcessName : Wrong
  -- the process has more events than it may
  Events : Wrong
  -- a value isn't a whole number of 64 bits
  Value : Wrong
  -- the id of a message is too short or too long
  MessageId : Wrong
  -- the name of a variable is no name
  VarName : Wrong
  -- the process has more variables than it may
  Vars : Wrong

-- in a line, by its number from 1, or in the stream as a whole
pub record Fault : Type 0 where
  pub line : Option ℕ
  pub wrong : Wrong

abbrev pub wrong_words : Wrong → List ℕ
wrong_words StreamTooLong = codes "it has more than 16,777,216 bytes"
wrong_words NoLine = codes "it has no line that says whose stream it is"
wrong_words LineTooLong = codes "the line has more than 65,536 bytes"
wrong_words Json = codes "it isn't JSON, and isn't the last line"
wrong_words Shape = codes "it is no record of a stream"
wrong_words NoJoin = codes "the stream doesn't begin with its process"
wrong_words SecondJoin = codes "a second run begins here"
wrong_words ProcessName = codes "no process of a document can have this name"
wrong_words Events = codes "the process has more than 10,000 events"
wrong_words Value = codes "a value is no whole number of 64 bits"
wrong_words MessageId = codes "the id of a message has 1 to 64 bytes"
wrong_words VarName = codes "no variable of a document can have this name"
wrong_words Vars = codes "the process has more than 16 variables"

abbrev pub placed_words : Option ℕ → List ℕ → List ℕ
placed_words None words = codes ": " ++ words
placed_words (Some line) words = in_line line words

-- what stands after the name of the stream's file, if it is refused for this
abbrev pub fault_words : Fault → List ℕ
fault_words fault = placed_words fault.line (wrong_words fault.wrong)

abbrev pub fault_at : ℕ → Wrong → Fault
fault_at line wrong = record { line = Some line; wrong = wrong }

abbrev pub fault_of_whole : Wrong → Fault
fault_of_whole wrong = record { line = None; wrong = wrong }

-- what its lines say so far
pub record Stage : Type 0 where
  -- the process, if its join has come
  pub process : Option (List ℕ)
  pub vars : List (List ℕ)
  pub received : List (List ℕ)
  -- how many events have come
  pub events : ℕ
  -- the number of a line that isn't JSON: it is dropped if it is the last one
  pub cut : Option ℕ
  -- whether the end line has come, after which nothing counts
  pub is_ended : Bool

abbrev pub fresh : Stage
fresh = record { process = None; vars = []; received = []; events = 0; cut = None; is_ended = false }

-- ---- the variables that a line sets

abbrev pub names_or_none : Option json.Members → List (List ℕ)
names_or_none None = []
names_or_none (Some members) = member_names members

-- the value that a line is, with the fields in the order of its text
abbrev pub ordered_value : List ℕ → Option json.Json
ordered_value bytes = if is_utf8 bytes then json.document bytes else None

-- the names in the object `set` of a line, in the order of its text
abbrev pub set_names : List ℕ → List (List ℕ)
set_names bytes = names_or_none (option_and_then as_object (option_and_then (get (codes "set")) (ordered_value bytes)))

-- the variables after one that is set: it is added if it is new
abbrev pub with_var : List (List ℕ) → List ℕ → Result (List (List ℕ)) Wrong
with_var vars name =
    if is_one_of vars name then Ok vars
    else (if not (is_name name) then Err VarName
    else (if nat_le var_limit (length vars) then Err Vars else Ok (vars ++ name ∷ [])))

abbrev pub unless_wrong : {A B W : Type 0} → (A → Result B W) → Result A W → Result B W
unless_wrong f (Ok x) = f x
unless_wrong f (Err wrong) = Err wrong

abbrev pub with_vars : List (List ℕ) → List (List ℕ) → Result (List (List ℕ)) Wrong
with_vars vars [] = Ok vars
with_vars vars (name ∷ names) = unless_wrong (λ more. with_vars more names) (with_var vars name)

-- ---- what a line says after others

abbrev pub with_cut : Stage → ℕ → Stage
with_cut s n = record {
  process = s.process;
  vars = s.vars;
  received = s.received;
  events = s.events;
  cut = Some n;
  is_ended = s.is_ended;
}

abbrev pub with_process : Stage → List ℕ → Stage
with_process s name = record {
  process = Some name;
  vars = s.vars;
  received = s.received;
  events = s.events;
  cut = s.cut;
  is_ended = s.is_ended;
}

abbrev pub with_end : Stage → Stage
with_end s = record {
  process = s.process;
  vars = s.vars;
  received = s.received;
  events = s.events;
  cut = s.cut;
  is_ended = true;
}

abbrev pub with_event : Stage → Kind → List (List ℕ) → Stage
with_event s kind vars = record {
  process = s.process;
  vars = vars;
  received = with_receipt kind s.received;
  events = s.events + 1;
  cut = s.cut;
  is_ended = s.is_ended;
}

-- an event after which these are the variables, or there is something wrong with those that it sets
abbrev pub after_setting : Stage → ℕ → Kind → Result (List (List ℕ)) Wrong → Result Stage Fault
after_setting s n kind (Ok vars) = Ok (with_event s kind vars)
after_setting s n kind (Err wrong) = Err (fault_at n wrong)

-- an event of this kind with these settings, whose names stand in this order in the text
abbrev pub after_event : Stage → ℕ → List (List ℕ) → Kind → Members → Result Stage Fault
after_event s n names kind settings =
    if nat_le event_limit s.events then Err (fault_at n Events)
    else (if not (list_all (λ value. is_some (whole_number value)) (values settings)) then Err (fault_at n Value)
    else (if not (id_fits kind) then Err (fault_at n MessageId)
    else after_setting s n kind (with_vars s.vars names)))

abbrev pub after_join : Stage → ℕ → List ℕ → Result Stage Fault
after_join s n name =
    if is_some s.process then Err (fault_at n SecondJoin)
    else (if is_name name then Ok (with_process s name) else Err (fault_at n ProcessName))

abbrev pub after_statement : Stage → ℕ → List (List ℕ) → Statement → Result Stage Fault
after_statement s n names (SaysJoin name) = after_join s n name
after_statement s n names SaysEnd = if is_some s.process then Ok (with_end s) else Err (fault_at n NoJoin)
after_statement s n names (SaysEvent kind settings) =
    if is_some s.process then after_event s n names kind settings else Err (fault_at n NoJoin)

abbrev pub after_shape : Stage → ℕ → List (List ℕ) → Option Statement → Result Stage Fault
after_shape s n names None = Err (fault_at n Shape)
after_shape s n names (Some statement) = after_statement s n names statement

abbrev pub after_value : Stage → ℕ → List ℕ → Option Data → Result Stage Fault
after_value s n bytes None = Ok (with_cut s n)
after_value s n bytes (Some value) = after_shape s n (set_names bytes) (statement_of value)

-- a line that isn't blank, after which line a cut one stands
abbrev pub after_cut : Stage → ℕ → List ℕ → Option ℕ → Result Stage Fault
after_cut s n bytes None = after_value s n bytes (json_value bytes)
after_cut s n bytes (Some cut) = Err (fault_at cut Json)

-- the line of this number
unfoldable pub after_line : Stage → ℕ → List ℕ → Result Stage Fault
after_line s n bytes =
    if s.is_ended then Ok s
    else (if nat_lt line_byte_limit (length bytes) then Err (fault_at n LineTooLong)
    else (if is_blank bytes then Ok s else after_cut s n bytes s.cut))

-- the lines from this number on
abbrev pub after_lines : Stage → ℕ → List (List ℕ) → Result Stage Fault
after_lines s n [] = Ok s
after_lines s n (bytes ∷ others) = unless_wrong (λ after. after_lines after (suc n) others) (after_line s n bytes)

-- ---- what a stream says

abbrev pub process_of : Stage → Option (List ℕ) → Result Process Fault
process_of s None = Err (fault_of_whole NoLine)
process_of s (Some name) = Ok (record { name = name; vars = s.vars; received = s.received })

-- What the bytes of a stream say, which may have no end line, and whose last line may be cut short; or its first fault.
unfoldable pub stream_process : List ℕ → Result Process Fault
stream_process bytes =
    if nat_lt stream_byte_limit (length bytes) then Err (fault_of_whole StreamTooLong)
    else unless_wrong (λ s. process_of s s.process) (after_lines fresh 1 (all_lines bytes))

-- with the words for the fault
abbrev pub worded : Result Process Fault → Found
worded (Ok process) = Ok process
worded (Err fault) = Err (fault_words fault)
