-- What one line of a stream says.
use Rattle.std.specs.Prelude.{ℕ, suc, Bool, true, not, ◌&&◌, nat_le, if◌then◌else◌, List, [], ◌∷◌, length, codes, ℤ, Option, Some, None, is_some, option_map, option_and_then, Result, Ok, Err}
use Rattle.std.specs.Str.{bytes_eq, is_utf8}
use Rattle.std.specs.List.{list_all, cons_option}
use Rattle.serde_json.specs.Data.{Data, boolean, string, Members, no_members, member}
use Rattle.serde_json.specs.Read.{read}
use Rattle.serde_json.specs.Find.{get_member, as_number, as_str, as_object, as_i64}
use Rattle.def_model.specs.Events.{Kind, Local, Send, Receive, Event}
use Rattle.def_format.specs.Lists.{first_that_applies, unless, first_some, is_one_of}
use Rattle.def_format.specs.Names.{ProcessNames, process_named, vars_of}
use Rattle.def_format.specs.Limits.{id_byte_limit}

-- the value that the bytes are in JSON, if they are one
abbrev pub json_value : List ℕ → Option Data
json_value bytes = if is_utf8 bytes then read bytes else None

-- the whole number of 64 bits that a value is, if it is one
abbrev pub whole_number : Data → Option ℤ
whole_number value = option_and_then as_i64 (as_number value)

abbrev pub keys : Members → List (List ℕ)
keys no_members = []
keys (member key value others) = key ∷ keys others

abbrev pub values : Members → List Data
values no_members = []
values (member key value others) = value ∷ values others

-- each field is one of these
abbrev pub has_only : List (List ℕ) → Members → Bool
has_only names fields = list_all (λ key. is_one_of names key) (keys fields)

-- what a line of right shape says, before its names and values are looked at
pub data Statement : Type 0 where
  SaysJoin : List ℕ → Statement
  SaysEnd : Statement
  SaysEvent : Kind → Members → Statement

-- a field `process` alone, which is a text
abbrev pub join_statement : Members → Option Statement
join_statement (member key (string name) no_members) = if bytes_eq key (codes "process") then Some (SaysJoin name) else
    None
join_statement _ = None

-- a field `end` alone, which is true
abbrev pub end_statement : Members → Option Statement
end_statement (member key (boolean true) no_members) = if bytes_eq key (codes "end") then Some SaysEnd else None
end_statement _ = None

-- by the fields `send` and `recv`, which aren't both there, and are texts
abbrev pub kind_by_fields : Option Data → Option Data → Option Kind
kind_by_fields None None = Some Local
kind_by_fields (Some id) None = option_map Send (as_str id)
kind_by_fields None (Some id) = option_map Receive (as_str id)
kind_by_fields (Some id) (Some other) = None

-- the field `set` is an object, if it is there
abbrev pub settings_of : Option Data → Option Members
settings_of None = Some no_members
settings_of (Some value) = as_object value

abbrev pub event_statement : Members → Option Statement
event_statement fields =
    if has_only (codes "send" ∷ codes "recv" ∷ codes "set" ∷ []) fields
    then option_and_then (λ kind. option_map (SaysEvent kind) (settings_of (get_member (codes "set") fields)))
    (kind_by_fields (get_member (codes "send") fields) (get_member (codes "recv") fields))
    else None

abbrev pub statement_of : Data → Option Statement
statement_of value =
    option_and_then (λ fields. first_some (join_statement fields)
    (first_some (end_statement fields) (event_statement fields))) (as_object value)

pub data RecordFault : Type 0 where
  Json : RecordFault
  Shape : RecordFault
  Join : RecordFault
  UnknownProcess : RecordFault
  UnknownVar : RecordFault
  Value : RecordFault
  MessageId : RecordFault

pub data LineRecord : Type 0 where
  Joins : ℕ → LineRecord
  Happens : Event → LineRecord
  Ends : LineRecord

abbrev pub id_fits : Kind → Bool
id_fits Local = true
id_fits (Send id) = nat_le 1 (length id) && nat_le (length id) id_byte_limit
id_fits (Receive id) = nat_le 1 (length id) && nat_le (length id) id_byte_limit

-- each variable, from this number on, that is set, with its value
abbrev pub sets_from : ℕ → List (List ℕ) → Members → List (ℕ × ℤ)
sets_from v [] settings = []
sets_from v (var ∷ others) settings =
    cons_option (option_map (λ value. (v, value)) (option_and_then whole_number (get_member var settings)))
    (sets_from (suc v) others settings)

-- an event of a process with these variables, or its first fault
abbrev pub event_record : List (List ℕ) → Kind → Members → Result LineRecord RecordFault
event_record vars kind settings =
    unless (first_that_applies (
    (not (has_only vars settings), UnknownVar)
    ∷ (not (list_all (λ value. is_some (whole_number value)) (values settings)), Value)
    ∷ (not (id_fits kind), MessageId)
    ∷ []))
    (Happens (record { kind = kind; sets = sets_from 0 vars settings }))

abbrev pub join_record : Option ℕ → Result LineRecord RecordFault
join_record None = Err UnknownProcess
join_record (Some process) = Ok (Joins process)

-- a statement before the join, or after the join of a process
abbrev pub record_of_statement : List ProcessNames → Option ℕ → Statement → Result LineRecord RecordFault
record_of_statement names None (SaysJoin name) = join_record (process_named names name)
record_of_statement names None SaysEnd = Err Join
record_of_statement names None (SaysEvent kind settings) = Err Join
record_of_statement names (Some process) (SaysJoin name) = Err Join
record_of_statement names (Some process) SaysEnd = Ok Ends
record_of_statement names (Some process) (SaysEvent kind settings) = event_record (vars_of names process) kind settings

abbrev pub record_of_shape : List ProcessNames → Option ℕ → Option Statement → Result LineRecord RecordFault
record_of_shape names joined None = Err Shape
record_of_shape names joined (Some statement) = record_of_statement names joined statement

abbrev pub record_of_value : List ProcessNames → Option ℕ → Option Data → Result LineRecord RecordFault
record_of_value names joined None = Err Json
record_of_value names joined (Some value) = record_of_shape names joined (statement_of value)

-- the record of a line, or the first fault that applies
unfoldable pub record_of : List ProcessNames → Option ℕ → List ℕ → Result LineRecord RecordFault
record_of names joined bytes = record_of_value names joined (json_value bytes)
