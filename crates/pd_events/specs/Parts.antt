-- The parts of an event as they are read: each is as it is due, or its fault is reported, or that memory ran out.
use Rattle.std.specs.Prelude.{◌≡◌, ◌&&◌, ℕ, nat_le, not, List, [], ◌∷◌, length, Vec, String, string_bytes, ℤ, is_some, Result, Ok, Err, MatchResult, MatchOption, if◌then◌else◌}
use Rattle.std.specs.Global.{Global}
use Rattle.std.specs.List.{list_all}
use Rattle.serde_json.specs.Data.{Members}
use Rattle.def_model.specs.Events.{Kind}
use Rattle.def_format.specs.Lists.{first_that_applies, unless}
use Rattle.def_format.specs.Limits.{id_byte_limit}
use Rattle.def_format.specs.Records.{has_only, id_fits, sets_from, values, whole_number, UnknownVar, Value, MessageId}
use Rattle.def_format.specs.Records as records
use Rattle.read_traces.specs.Columns.{event_with}
use Rattle.pd_events.specs.Faults.{record_fault_view}
use Rattle.read_traces.specs.Views.{kind_view}
use Rattle.read_traces.specs.declared.event.EventKind.{EventKind}
use Rattle.pd_events.specs.declared.fault.RecordFault.{RecordFault}

-- the answer is the value due, as this view shows it, or the fault due, or that memory ran out
abbrev pub IsAnswerBy : {A B : Type 0} → (B → A) → Result A records.RecordFault → Result B RecordFault → Type 0
IsAnswerBy view due answer =
    MatchResult answer (λ value. due ≡ Ok (view value)) (λ fault.
    MatchOption (record_fault_view fault) (Unit {0}) (λ f. due ≡ Err f))

-- the variables that settings set, or the first fault of the settings
abbrev pub sets_due : List (List ℕ) → Members → Result (List (ℕ × ℤ)) records.RecordFault
sets_due vars settings =
    unless (first_that_applies (
    (not (has_only vars settings), UnknownVar)
    ∷ (not (list_all (λ value. is_some (whole_number value)) (values settings)), Value)
    ∷ []))
    (sets_from 0 vars settings)

abbrev pub IsSets : List (List ℕ) → Members → Result (Vec (ℕ × ℤ) Global) RecordFault → Type 0
IsSets vars settings answer = IsAnswerBy (λ (sets : Vec (ℕ × ℤ) Global). sets.items) (sets_due vars settings) answer

-- the kind of event, if the id has its length
abbrev pub kind_due : Kind → Result Kind records.RecordFault
kind_due kind = if id_fits kind then Ok kind else Err MessageId

abbrev pub IsKind : Kind → Result EventKind RecordFault → Type 0
IsKind kind answer = IsAnswerBy kind_view (kind_due kind) answer

-- the event of this kind that sets these variables, if its id has its length
abbrev pub event_due : Kind → List (ℕ × ℤ) → Result records.LineRecord records.RecordFault
event_due kind sets = if id_fits kind then Ok (records.Happens (event_with kind sets)) else Err MessageId

-- the id, if it has its length
abbrev pub id_due : List ℕ → Result (List ℕ) records.RecordFault
id_due id = if nat_le 1 (length id) && nat_le (length id) id_byte_limit then Ok id else Err MessageId

abbrev pub IsId : List ℕ → Result (String Global) RecordFault → Type 0
IsId id answer = IsAnswerBy string_bytes (id_due id) answer
