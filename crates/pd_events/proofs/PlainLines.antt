-- What a line of the plain shape says, from its fields.
use Rattle.std.proofs.Common.{◌≡◌, ℕ, ℤ, Bool, true, false, true≢false, List, [], ◌∷◌, Option, Some, None, codes, refl, sym, ◌∙◌}
use Rattle.std.specs.Prelude.{IsUtf8, is_some, not, Ok, Err, if◌then◌else◌}
use Rattle.std.specs.List.{list_all}
use Rattle.json.specs.Token.{Token}
use Rattle.json.specs.Lex.{tokens}
use Rattle.serde_json.specs.Data.{string, object, Members, no_members, put}
use Rattle.def_model.specs.Events.{Kind, Local, Send, Receive}
use Rattle.def_format.specs.Lists.{first_that_applies, unless}
use Rattle.def_format.specs.Names.{ProcessNames, vars_of}
use Rattle.def_format.specs.Records.{RecordFault, Happens, MessageId, SaysEvent, UnknownVar, Value, event_record, has_only, id_fits, record_of, sets_from, statement_of, values, whole_number}
use Rattle.def_format.proofs.JsonFacts.{json_value-some}
use Rattle.read_traces.specs.Columns.{event_with}
use Rattle.pd_events.specs.Parts.{event_due, sets_due}
use Rattle.pd_events.specs.Plain.{AreSets, GivesFields, GoesOn, line_fields, settings_or_none}
use Rattle.pd_events.proofs.PlainReading.{ends, goes_on_and_on, goes_on_from_here, object_goes_in, text_goes_in, whole_object}
use Rattle.pd_events.proofs.RecordFacts.{nothing_set, record_of_its_value}

-- ---- a field that goes in

send_goes_in : (id : List ℕ) (settings : Option Members)
    → put (codes "send") (string id) (line_fields Local settings) ≡ line_fields (Send id) settings
send_goes_in id None = refl
send_goes_in id (Some settings) = refl

recv_goes_in : (id : List ℕ) (settings : Option Members)
    → put (codes "recv") (string id) (line_fields Local settings) ≡ line_fields (Receive id) settings
recv_goes_in id None = refl
recv_goes_in id (Some settings) = refl

set_goes_in : (kind : Kind) (settings : Members)
    → put (codes "set") (object settings) (line_fields kind None) ≡ line_fields kind (Some settings)
set_goes_in Local settings = refl
set_goes_in (Send id) settings = refl
set_goes_in (Receive id) settings = refl

-- ---- the same of what the tokens give

pub send_read : (name id : List ℕ) (settings : Option Members) (old now : List Token) → name ≡ codes "send"
    → old ≡ Token.string id ∷ now
    → GoesOn 126 (line_fields Local settings) (Token.key name ∷ old) (line_fields (Send id) settings) now
send_read name id settings old now is e =
    rw (is, e, ← send_goes_in id settings) (text_goes_in 126 (line_fields Local settings) (codes "send") id now)

pub recv_read : (name id : List ℕ) (settings : Option Members) (old now : List Token) → name ≡ codes "recv"
    → old ≡ Token.string id ∷ now
    → GoesOn 126 (line_fields Local settings) (Token.key name ∷ old) (line_fields (Receive id) settings) now
recv_read name id settings old now is e =
    rw (is, e, ← recv_goes_in id settings) (text_goes_in 126 (line_fields Local settings) (codes "recv") id now)

pub set_read : (name : List ℕ) (kind : Kind) (settings : Members) (old now : List Token) → name ≡ codes "set"
    → GivesFields 125 no_members old settings now
    → GoesOn 126 (line_fields kind None) (Token.key name ∷ Token.begin_object ∷ old)
    (line_fields kind (Some settings)) now
set_read name kind settings old now is gives =
    rw (is, ← set_goes_in kind settings)
    (object_goes_in 125 (line_fields kind None) settings (codes "set") old now gives)

-- ---- as the loop has them

-- before any field
pub no_field_read : (vars : List (List ℕ)) (sets : List (ℕ × ℤ)) (start : List Token) → sets ≡ []
    → (settings : Option Members) × AreSets vars settings false sets
    × GoesOn 126 no_members start (line_fields Local settings) start
no_field_read vars sets start e = (
  None,
  record { same_said = refl; due = rw e (nothing_set vars None refl) },
  goes_on_from_here 126 no_members start,
)

-- after the field `set`
pub sets_read : (vars : List (List ℕ)) (start before now inner rest : List Token) (name : List ℕ) (kind : Kind)
    (settings : Option Members) (said : Bool) (old new : List (ℕ × ℤ)) (found : Members)
    → AreSets vars settings said old → said ≡ false → GoesOn 126 no_members start (line_fields kind settings) before
    → before ≡ Token.key name ∷ now → name ≡ codes "set" → now ≡ Token.begin_object ∷ inner
    → GivesFields 125 no_members inner found rest → sets_due vars found ≡ Ok new
    → (after : Option Members) × AreSets vars after true new
    × GoesOn 126 no_members start (line_fields kind after) rest
sets_read vars start before now inner rest name kind (Some settings) said old new found are none goes e is f gives due =
    let never : true ≡ false = are.same_said ∙ none in absurd (true≢false never)
sets_read vars start before now inner rest name kind None said old new found are none goes e is f gives due = (
  Some found,
  record { same_said = refl; due = due },
  goes_on_and_on 126 no_members (line_fields kind None) (line_fields kind (Some found)) start
      (Token.key name ∷ Token.begin_object ∷ inner) rest (rw (e, f) at goes)
      (set_read name kind found inner rest is gives),
)

-- after a field that says a message
pub said_read : (vars : List (List ℕ)) (start before now rest : List Token) (name : List ℕ) (kind after : Kind)
    (settings : Option Members) (said : Bool) (sets : List (ℕ × ℤ)) → AreSets vars settings said sets
    → GoesOn 126 no_members start (line_fields kind settings) before → before ≡ Token.key name ∷ now
    → ((settings : Option Members) → GoesOn 126 (line_fields kind settings) (Token.key name ∷ now)
    (line_fields after settings) rest)
    → (settings : Option Members) × AreSets vars settings said sets
    × GoesOn 126 no_members start (line_fields after settings) rest
said_read vars start before now rest name kind after settings said sets are goes e next = (
  settings,
  are,
  goes_on_and_on 126 no_members (line_fields kind settings) (line_fields after settings) start (Token.key name ∷ now)
      rest (rw e at goes) (next settings),
)

-- after the closing brace
pub fields_read : (vars : List (List ℕ)) (start before rest : List Token) (kind : Kind) (settings : Option Members)
    (said : Bool) (sets : List (ℕ × ℤ)) → AreSets vars settings said sets
    → GoesOn 126 no_members start (line_fields kind settings) before → before ≡ Token.end_object ∷ rest
    → (settings : Option Members) × GivesFields 126 no_members start (line_fields kind settings) rest
    × (sets_due vars (settings_or_none settings) ≡ Ok sets)
fields_read vars start before rest kind settings said sets are goes e = (
  settings,
  goes.gives (line_fields kind settings) rest (rw e (ends 126 (line_fields kind settings) rest)),
  are.due,
)

-- ---- the whole line

same_ok : (found sets : List (ℕ × ℤ)) → unless {F = RecordFault} None found ≡ Ok sets → found ≡ sets
same_ok found sets e = cc

statement_is : (kind : Kind) (settings : Option Members)
    → statement_of (object (line_fields kind settings)) ≡ Some (SaysEvent kind (settings_or_none settings))
statement_is Local None = refl
statement_is Local (Some settings) = refl
statement_is (Send id) None = refl
statement_is (Send id) (Some settings) = refl
statement_is (Receive id) None = refl
statement_is (Receive id) (Some settings) = refl

line_read : (names : List ProcessNames) (p : ℕ) (bytes : List ℕ) (now : List Token) (kind : Kind)
    (settings : Option Members) → IsUtf8 bytes → tokens bytes ≡ Token.begin_object ∷ now
    → GivesFields 126 no_members now (line_fields kind settings) []
    → record_of names (Some p) bytes ≡ event_record (vars_of names p) kind (settings_or_none settings)
line_read names p bytes now kind settings utf8 e gives =
    record_of_its_value names (Some p) bytes (object (line_fields kind settings))
    (Some (SaysEvent kind (settings_or_none settings)))
    (json_value-some bytes _ utf8 (whole_object bytes now (line_fields kind settings) e gives))
    (sym (statement_is kind settings))

event_due_by : (known whole fits : Bool) (kind : Kind) (found sets : List (ℕ × ℤ))
    → unless (first_that_applies ((not known, UnknownVar) ∷ (not whole, Value) ∷ [])) found ≡ Ok sets
    → unless (first_that_applies ((not known, UnknownVar) ∷ (not whole, Value) ∷ (not fits, MessageId) ∷ []))
    (Happens (event_with kind found)) ≡ if fits then Ok (Happens (event_with kind sets)) else Err MessageId
event_due_by true true true kind found sets e = λ i. Ok (Happens (event_with kind (same_ok found sets e i)))
event_due_by true true false kind found sets e = refl
event_due_by true false fits kind found sets e = absurd (cc)
event_due_by false whole fits kind found sets e = absurd (cc)

-- the record of an event that sets what is due
event_is_due : (vars : List (List ℕ)) (kind : Kind) (settings : Members) (sets : List (ℕ × ℤ))
    → sets_due vars settings ≡ Ok sets → event_record vars kind settings ≡ event_due kind sets
event_is_due vars kind settings sets e =
    event_due_by (has_only vars settings) (list_all (λ value. is_some (whole_number value)) (values settings))
    (id_fits kind) kind (sets_from 0 vars settings) sets e

pub whole_line_read : (names : List ProcessNames) (p : ℕ) (vars : List (List ℕ)) (bytes : List ℕ)
    (start now rest : List Token) (kind : Kind) (settings : Option Members) (sets : List (ℕ × ℤ))
    → vars ≡ vars_of names p → IsUtf8 bytes → start ≡ tokens bytes → start ≡ Token.begin_object ∷ now
    → GivesFields 126 no_members now (line_fields kind settings) rest → rest ≡ []
    → sets_due vars (settings_or_none settings) ≡ Ok sets → record_of names (Some p) bytes ≡ event_due kind sets
whole_line_read names p vars bytes start now rest kind settings sets known utf8 e f gives none due =
    (rw known (line_read names p bytes now kind settings utf8 (sym e ∙ f) (rw none at gives)))
    ∙ event_is_due vars kind (settings_or_none settings) sets due
