-- What a stream says of its process before there is a document, or why it is refused.
use Rattle.std.specs.Prelude.{ℕ, suc, not, nat_le, nat_lt, if◌then◌else◌, List, [], ◌∷◌, ◌++◌, length, codes, decimal, Option, Some, None, is_some, option_and_then, option_map, unwrap_or, Result, Ok, Err}
use Rattle.std.specs.List.{list_all}
use Rattle.json.specs.Json as json
use Rattle.json.specs.Find.{get, as_object}
use Rattle.serde_json.specs.Data.{Members}
use Rattle.def_model.specs.Events.{Kind, Receive}
use Rattle.def_format.specs.Lines.{all_lines, is_blank}
use Rattle.def_format.specs.Limits.{event_limit, line_byte_limit, stream_byte_limit, var_limit}
use Rattle.def_format.specs.Lists.{is_one_of}
use Rattle.def_format.specs.Names.{is_name}
use Rattle.def_format.specs.Records.{Statement, SaysEnd, SaysEvent, SaysJoin, id_fits, json_value, statement_of, values, whole_number}

-- its name, the variables that its events set, in the order in which each is first set, and the ids of the messages
-- that they receive, in their order
pub record Process : Type 0 where
  pub name : List ℕ
  pub vars : List (List ℕ)
  pub received : List (List ℕ)

-- a process, or why there is none, in the words that stand after the name of the stream's file
abbrev pub Found : Type 0
Found = Result Process (List ℕ)

-- the line of this number is refused
abbrev pub in_line : ℕ → List ℕ → List ℕ
in_line n why = codes " line " ++ decimal n ++ codes ": " ++ why

abbrev pub member_names : json.Members → List (List ℕ)
member_names json.no_members = []
member_names (json.member name value others) = name ∷ member_names others

-- the names in the object `set` of a line, in the order of its text
abbrev pub setting_names : List ℕ → List (List ℕ)
setting_names line = unwrap_or (option_map member_names (option_and_then as_object
    (option_and_then (get (codes "set")) (json.document line)))) []

-- these variables, and those of these names that are new; or why the first of them that is no variable isn't one
abbrev pub with_names : List (List ℕ) → List (List ℕ) → Result (List (List ℕ)) (List ℕ)
with_names vars [] = Ok vars
with_names vars (name ∷ names) =
    if is_one_of vars name then with_names vars names
    else (if not (is_name name) then Err (codes "no variable of a document can have this name")
    else (if nat_le var_limit (length vars) then Err (codes "the process has more than 16 variables")
    else with_names (vars ++ name ∷ []) names))

abbrev pub with_receipt : Kind → List (List ℕ) → List (List ℕ)
with_receipt (Receive id) received = received ++ id ∷ []
with_receipt _ received = received

abbrev pub with_event : ℕ → (Process → Found) → Process → Kind → Result (List (List ℕ)) (List ℕ) → Found
with_event n go p kind (Err why) = Err (in_line n why)
with_event n go p kind (Ok vars) = go (record { name = p.name; vars = vars; received = with_receipt kind p.received })

-- an event of this process in the line of this number, which sets variables of these names and stands after this many
-- records
abbrev pub after_event : ℕ → (Process → Found) → Process → ℕ → List (List ℕ) → Kind → Members → Found
after_event n later p records names kind settings =
    if nat_lt event_limit records then Err (in_line n (codes "the process has more than 10,000 events"))
    else (if not (list_all (λ value. is_some (whole_number value)) (values settings))
    then Err (in_line n (codes "a value is no whole number of 64 bits"))
    else (if not (id_fits kind) then Err (in_line n (codes "the id of a message has 1 to 64 bytes"))
    else with_event n later p kind (with_names p.vars names)))

-- The same of any statement, after those that gave this process, if they gave one. What comes later is what the later
-- lines give.
abbrev pub after_record : ℕ → (later : Process → Found) → Option Process → ℕ → List (List ℕ) → Option Statement → Found
after_record n later before records names None = Err (in_line n (codes "it is no record of a stream"))
after_record n later None records names (Some (SaysJoin name)) =
    if is_name name then later (record { name = name; vars = []; received = [] })
    else Err (in_line n (codes "no process of a document can have this name"))
after_record n later None records names (Some _) = Err (in_line n (codes "the stream doesn't begin with its process"))
after_record n later (Some p) records names (Some (SaysJoin name)) = Err (in_line n (codes "a second run begins here"))
after_record n later (Some p) records names (Some SaysEnd) = Ok p
after_record n later (Some p) records names (Some (SaysEvent kind settings)) =
    after_event n later p records names kind settings

-- The process by the lines from this number on, after this many records, which gave the process so far, and after the
-- line `cut` that isn't JSON, if there is one. That one is dropped if no line but blank ones comes after it.
abbrev pub process_by : Option Process → ℕ → (cut : Option ℕ) → ℕ → List (List ℕ) → Found
process_by before records cut n [] =
    unwrap_or (option_map Ok before) (Err (codes ": it has no line that says whose stream it is"))
process_by before records cut n (line ∷ others) =
    if nat_lt line_byte_limit (length line) then Err (in_line n (codes "the line has more than 65,536 bytes"))
    else (if is_blank line then process_by before records cut (suc n) others
    else unwrap_or (option_map (λ c. Err (in_line c (codes "it isn't JSON, and isn't the last line"))) cut)
    (unwrap_or (option_map (λ value. after_record n (λ p. process_by (Some p) (suc records) None (suc n) others)
    before records (setting_names line) (statement_of value)) (json_value line))
    (process_by before records (Some n) (suc n) others)))

-- The process of a stream of these bytes. It may have no end line, and its last line may be cut short.
unfoldable pub process_of_stream : List ℕ → Found
process_of_stream bytes =
    if nat_lt stream_byte_limit (length bytes) then Err (codes ": it has more than 16,777,216 bytes")
    else process_by None 0 None 1 (all_lines bytes)
