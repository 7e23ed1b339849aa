-- The session document.
use Rattle.std.specs.Prelude.{◌≡◌, ℕ, ◌+◌, Bool, true, false, not, ◌&&◌, ◌||◌, ◌==◌, nat_eq, nat_le, nat_lt, if◌then◌else◌, List, [], ◌∷◌, ◌++◌, length, map, codes, decimal, ℤ, pos, negsuc, Option, Some, None, is_some, option_map, option_and_then, unwrap_or, Result, Ok, Err}
use Rattle.std.specs.List.{list_all, list_any, AllZip, AllByRecursion, before_first, after_first}
use Rattle.serde_json.specs.Data.{Data, null, boolean, number, string, array, object, unsigned, Items, no_items, item, Members, no_members, member, put}
use Rattle.serde_json.specs.Find.{get_member, as_str, as_object, as_array}
use Rattle.def_model.specs.Messages.{Version, One, Two}
use Rattle.def_model.specs.Predicates.{Predicate}
use Rattle.def_format.specs.Lists.{first_that_applies, unless, is_one_of}
use Rattle.def_format.specs.Names.{ProcessNames, is_name}
use Rattle.def_format.specs.Records.{json_value, whole_number, keys, values, has_only}
use Rattle.def_format.specs.PredicateTexts.{PredicateFault, IsPredicate, IsRefusedPredicate}
use Rattle.def_format.specs.Limits.{document_byte_limit, default_width, var_limit, width_limit, process_limit, predicate_limit}

-- a document of right shape: the processes with their variables, the predicates with their texts, and the width and the
-- version where they are there
pub record Outline : Type 0 where
  pub processes : List (List ℕ × Members)
  pub predicates : List (List ℕ × List ℕ)
  pub width : Option Data
  pub version : Option Data

-- both, if both are there
abbrev pub pair_of : {A B : Type 0} → Option A → Option B → Option (A × B)
pair_of None second = None
pair_of (Some x) second = option_map (λ y. (x, y)) second

-- what f makes of each item, if it makes something of all
abbrev pub each : {A : Type 0} → (Data → Option A) → Items → Option (List A)
each f no_items = Some []
each f (item value others) = option_and_then (λ x. option_map (λ rest. x ∷ rest) (each f others)) (f value)

-- the field of this name, as f sees it
abbrev pub field : {A : Type 0} → List ℕ → (Data → Option A) → Members → Option A
field name f fields = option_and_then f (get_member name fields)

-- an object of exactly a name and one other field
abbrev pub named_object : {A : Type 0} → List ℕ → (Data → Option A) → Data → Option (List ℕ × A)
named_object other f value =
    option_and_then (λ fields. if has_only (codes "name" ∷ other ∷ []) fields then
    pair_of (field (codes "name") as_str fields) (field other f fields) else None) (as_object value)

abbrev pub objects : {A : Type 0} → (Data → Option A) → Data → Option (List A)
objects f value = option_and_then (each f) (as_array value)

abbrev pub outline_of_fields : Members → Option Outline
outline_of_fields fields =
    if has_only (codes "processes" ∷ codes "predicates" ∷ codes "width" ∷ codes "version" ∷ []) fields
    then option_map (λ (both : List (List ℕ × Members) × List (List ℕ × List ℕ)). record {
      processes =
          both.0;
      predicates = both.1;
      width = get_member (codes "width") fields;
      version = get_member (codes "version") fields;
    })
    (pair_of (field (codes "processes") (objects (named_object (codes "vars") as_object)) fields)
    (field (codes "predicates") (objects (named_object (codes "text") as_str)) fields))
    else None

abbrev pub outline_of : Data → Option Outline
outline_of value = option_and_then outline_of_fields (as_object value)

-- ---- faults

pub data DocumentFault : Type 0 where
  Long : DocumentFault
  Json : DocumentFault
  Shape : DocumentFault
  Processes : DocumentFault
  Name : DocumentFault
  NameTwice : DocumentFault
  Vars : DocumentFault
  Predicates : DocumentFault
  Width : DocumentFault
  OtherVersion : DocumentFault
  InPredicate : ℕ → PredicateFault → ℕ → DocumentFault

abbrev pub is_within : ℕ → ℕ → ℕ → Bool
is_within low high n = nat_le low n && nat_le n high

-- some text stands twice
abbrev pub has_twice : List (List ℕ) → Bool
has_twice [] = false
has_twice (text ∷ others) = is_one_of others text || has_twice others

abbrev pub process_names : Outline → List (List ℕ)
process_names outline = map (λ (process : List ℕ × Members). process.0) outline.processes

abbrev pub predicate_names : Outline → List (List ℕ)
predicate_names outline = map (λ (predicate : List ℕ × List ℕ). predicate.0) outline.predicates

-- at most as many variables as may be, each with a whole number of 64 bits
abbrev pub vars_fit : List ℕ × Members → Bool
vars_fit process =
    nat_le (length (keys process.1)) var_limit && list_all (λ value. is_some (whole_number value)) (values process.1)

abbrev pub is_width : ℤ → Bool
is_width (pos n) = is_within 1 width_limit n
is_width (negsuc n) = false

abbrev pub width_fits : Option Data → Bool
width_fits None = true
width_fits (Some value) = unwrap_or (option_map is_width (whole_number value)) false

-- the first fault of a document of right shape that may have this many processes, but for those in predicates and that
-- of its version
abbrev pub outline_fault : ℕ → Outline → Option DocumentFault
outline_fault limit outline = first_that_applies (
    (not (is_within 1 limit (length outline.processes)), Processes)
    ∷ (
      not (list_all is_name (process_names outline)
          && list_all (λ (process : List ℕ × Members). list_all is_name (keys process.1)) outline.processes
          && list_all is_name (predicate_names outline)),
      Name,
    )
    ∷ (has_twice (process_names outline) || has_twice (predicate_names outline), NameTwice)
    ∷ (not (list_all vars_fit outline.processes), Vars)
    ∷ (not (is_within 1 predicate_limit (length outline.predicates)), Predicates)
    ∷ (not (width_fits outline.width), Width)
    ∷ [])

abbrev pub checked_outline : ℕ → Option Outline → Result Outline DocumentFault
checked_outline limit None = Err Shape
checked_outline limit (Some outline) = unless (outline_fault limit outline) outline

abbrev pub outline_of_json : ℕ → Option Data → Result Outline DocumentFault
outline_of_json limit None = Err Json
outline_of_json limit (Some value) = checked_outline limit (outline_of value)

-- ---- options

-- What is asked of a session beside its document: a width and predicates in place of those that the document has, each
-- a text or `NAME=TEXT`, and whether a predicate that is decided without levels is answered whatever the width.
pub record Options : Type 0 where
  pub width : Option ℕ
  pub predicates : List (List ℕ)
  pub beyond_width : Bool

-- nothing is asked beside the document
abbrev pub no_options : Options
no_options = record { width = None; predicates = []; beyond_width = false }

-- the sign between the name and the text of a predicate that is asked
abbrev pub is_equals_sign : ℕ → Bool
is_equals_sign byte = byte == 61

abbrev pub begins_with_equals_sign : List ℕ → Bool
begins_with_equals_sign [] = false
begins_with_equals_sign (byte ∷ rest) = is_equals_sign byte

-- Whether what is asked is `NAME=TEXT`: before its first `=` stands a name, and after it no second `=`. No predicate
-- begins so.
abbrev pub has_own_name : List ℕ → Bool
has_own_name asked =
    list_any is_equals_sign asked
    && is_name (before_first is_equals_sign asked)
    && not (begins_with_equals_sign (after_first is_equals_sign asked))

-- the name of the predicate of this number that is asked
abbrev pub asked_name : ℕ → List ℕ → List ℕ
asked_name n asked =
    if has_own_name asked then before_first is_equals_sign asked else codes "ask" ++ decimal n

-- its text
abbrev pub asked_text : List ℕ → List ℕ
asked_text asked = if has_own_name asked then after_first is_equals_sign asked else asked

-- the predicate of this number that is asked, as a document has it
abbrev pub asked_predicate : ℕ → List ℕ → Data
asked_predicate n asked =
    object (
    member (codes "name") (string (asked_name n asked)) (
    member (codes "text") (string (asked_text asked)) no_members))

-- the predicates that are asked, numbered from this number on
abbrev pub asked_predicates : ℕ → List (List ℕ) → Items
asked_predicates n [] = no_items
asked_predicates n (text ∷ texts) = item (asked_predicate n text) (asked_predicates (n + 1) texts)

-- the fields of a document with this width, if one is asked for
abbrev pub with_width : Option ℕ → Members → Members
with_width None fields = fields
with_width (Some n) fields = put (codes "width") (number (unsigned n)) fields

-- the fields of a document with these predicates in place of its own, if some are asked for
abbrev pub with_predicates : List (List ℕ) → Members → Members
with_predicates [] fields = fields
with_predicates (text ∷ texts) fields =
    put (codes "predicates") (array (asked_predicates 1 (text ∷ texts))) fields

abbrev pub fields_with_options : Options → Members → Members
fields_with_options options fields = with_predicates options.predicates (with_width options.width fields)

-- a document's value with what is asked in place of what it has; a value that is no object stays as it is
abbrev pub with_options : Options → Data → Data
with_options options null = null
with_options options (boolean b) = boolean b
with_options options (number n) = number n
with_options options (string text) = string text
with_options options (array items) = array items
with_options options (object fields) = object (fields_with_options options fields)

-- a document's bytes, and what is asked beside it
pub record Inquiry : Type 0 where
  pub bytes : List ℕ
  pub options : Options

abbrev pub inquiry_of : Options → List ℕ → Inquiry
inquiry_of options bytes = record { bytes = bytes; options = options }

-- a document's bytes alone
abbrev pub plain : List ℕ → Inquiry
plain bytes = inquiry_of no_options bytes

-- the value of a document's bytes, changed by what is asked
abbrev pub inquiry_json : Inquiry → Option Data
inquiry_json inquiry = option_map (with_options inquiry.options) (json_value inquiry.bytes)

-- The outline of a document with what is asked, if it may have this many processes, or the first fault but for those in
-- predicates and that of its version. Whether the document is too long is decided by its own bytes, whatever is asked.
unfoldable pub outline_within : ℕ → Inquiry → Result Outline DocumentFault
outline_within limit inquiry =
    if nat_lt document_byte_limit (length inquiry.bytes) then Err Long else outline_of_json limit (inquiry_json inquiry)

-- that of a session's document
abbrev pub outline_of_inquiry : Inquiry → Result Outline DocumentFault
outline_of_inquiry = outline_within process_limit

-- ---- the document

pub record NamedPredicate : Type 0 where
  pub name : List ℕ
  pub predicate : Predicate

pub record Document : Type 0 where
  pub names : List ProcessNames
  pub initial : List (List ℤ)
  pub predicates : List NamedPredicate
  pub width : ℕ
  pub version : Version
  -- whether a predicate that is decided without levels is answered whatever the width
  pub beyond_width : Bool

abbrev pub names_of_outline : Outline → List ProcessNames
names_of_outline outline =
    map (λ (process : List ℕ × Members). record { name = process.0; vars = keys process.1 }) outline.processes

abbrev pub initial_of : Outline → List (List ℤ)
initial_of outline =
    map (λ (process : List ℕ × Members). map (λ value. unwrap_or (whole_number value) (pos 0)) (values process.1))
    outline.processes

abbrev pub natural : ℤ → ℕ
natural (pos n) = n
natural (negsuc n) = 0

abbrev pub width_of : Option Data → ℕ
width_of width = unwrap_or (option_map natural (option_and_then whole_number width)) default_width

-- the version of this number, if there is one
abbrev pub numbered_version : ℤ → Option Version
numbered_version (pos n) = if nat_eq n 1 then Some One else if nat_eq n 2 then Some Two else None
numbered_version (negsuc n) = None

-- the version that the field says, if it says one: version 1 where there is no such field
abbrev pub version_of : Option Data → Option Version
version_of None = Some One
version_of (Some value) = option_and_then numbered_version (whole_number value)

-- the name is that of the predicate's, and the text is the predicate
abbrev pub IsNamedPredicate : List ProcessNames → List ℕ × List ℕ → NamedPredicate → Type 0
IsNamedPredicate names written predicate = (predicate.name ≡ written.0)
    × IsPredicate names written.1 predicate.predicate

-- the document of the inquiry's bytes, with what is asked, is this one, if it may have this many processes
pub record IsDocumentWithin (limit : ℕ) (inquiry : Inquiry) (document : Document) : Type 0 where
  pub outline : Outline
  pub sound : outline_within limit inquiry ≡ Ok outline
  pub names : document.names ≡ names_of_outline outline
  pub initial : document.initial ≡ initial_of outline
  pub width : document.width ≡ width_of outline.width
  pub version : version_of outline.version ≡ Some document.version
  pub beyond_width : document.beyond_width ≡ inquiry.options.beyond_width
  pub predicates : AllZip (IsNamedPredicate (names_of_outline outline)) outline.predicates document.predicates

-- it is a session's
abbrev pub IsDocument : Inquiry → Document → Type 0
IsDocument = IsDocumentWithin process_limit

-- a text, by the names of the outline, is a predicate
abbrev pub IsSpelled : Outline → List ℕ × List ℕ → Type 0
IsSpelled outline written = (predicate : Predicate) × IsPredicate (names_of_outline outline) written.1 predicate

-- a predicate of a sound outline is refused, and those before it aren't
pub record HasRefusedPredicate (limit : ℕ) (inquiry : Inquiry) (number : ℕ) (fault : PredicateFault) (at : ℕ) : Type 0
  where
    pub outline : Outline
    pub sound : outline_within limit inquiry ≡ Ok outline
    pub before : List (List ℕ × List ℕ)
    pub refused : List ℕ × List ℕ
    pub after : List (List ℕ × List ℕ)
    pub parts : outline.predicates ≡ before ++ refused ∷ after
    pub place : number ≡ length before + 1
    pub stands : IsRefusedPredicate (names_of_outline outline) refused.1 fault at
    pub none_before : AllByRecursion (IsSpelled outline) before

-- no predicate of a sound outline is refused, and its field says no version
pub record HasOtherVersion (limit : ℕ) (inquiry : Inquiry) : Type 0 where
  pub outline : Outline
  pub sound : outline_within limit inquiry ≡ Ok outline
  pub spelled : AllByRecursion (IsSpelled outline) outline.predicates
  pub none : version_of outline.version ≡ None

-- the inquiry is refused with this fault of its document, if that may have this many processes
abbrev pub IsRefusedWithin : ℕ → Inquiry → DocumentFault → Type 0
IsRefusedWithin limit inquiry (InPredicate n fault at) = HasRefusedPredicate limit inquiry n fault at
IsRefusedWithin limit inquiry OtherVersion = HasOtherVersion limit inquiry
IsRefusedWithin limit inquiry fault = outline_within limit inquiry ≡ Err fault

-- it is refused as that of a session
abbrev pub IsRefusedDocument : Inquiry → DocumentFault → Type 0
IsRefusedDocument = IsRefusedWithin process_limit
