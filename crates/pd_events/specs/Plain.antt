-- What the tokens of a line of the plain shape say.
use Rattle.std.specs.Prelude.{◌≡◌, ℕ, suc, ◌≤◌, Bool, List, [], ◌∷◌, length, codes, ℤ, Option, Some, None, is_some, option_and_then, option_map, Ok}
use Rattle.std.specs.List.{cons_option}
use Rattle.json.specs.Token.{Token}
use Rattle.json.specs.Json.{members, value}
use Rattle.serde_json.specs.Data.{string, object, Members, no_members, member}
use Rattle.serde_json.specs.Find.{as_i64}
use Rattle.serde_json.specs.Read.{converted, number_of, of_members}
use Rattle.def_model.specs.Events.{Kind, Local, Send, Receive}
use Rattle.pd_events.specs.Parts.{sets_due}

-- the whole number of 64 bits that a number's text is, if it is one
abbrev pub text_number : List ℕ → Option ℤ
text_number text = option_and_then as_i64 (number_of text)

-- after these fields of an object, whose values nest no deeper than this, the tokens give all its fields and the rest
pub record GivesFields (depth : ℕ) (fields : Members) (tokens : List Token) (all : Members) (rest : List Token) :
    Type 0 where
  pub given : (n : ℕ) → length tokens ≤ n → converted (λ ms. of_members ms fields) (members (value depth) n tokens)
      ≡ Some (all, rest)

-- whatever the tokens give after these fields, the old ones gave after the old fields
pub record GoesOn (depth : ℕ) (old_fields : Members) (old_tokens : List Token) (fields : Members)
    (tokens : List Token) : Type 0 where
  pub gives : (all : Members) (rest : List Token) → GivesFields depth fields tokens all rest
      → GivesFields depth old_fields old_tokens all rest

-- the settings that are said, if any are
abbrev pub settings_or_none : Option Members → Members
settings_or_none None = no_members
settings_or_none (Some settings) = settings

abbrev pub set_field : Option Members → Members
set_field None = no_members
set_field (Some settings) = member (codes "set") (object settings) no_members

-- the fields of a line that says this kind of event and these settings
abbrev pub line_fields : Kind → Option Members → Members
line_fields Local settings = set_field settings
line_fields (Send id) settings = member (codes "send") (string id) (set_field settings)
line_fields (Receive id) settings = member (codes "recv") (string id) (set_field settings)

-- the settings that are said, if any are, set these variables
pub record AreSets (vars : List (List ℕ)) (settings : Option Members) (said : Bool) (sets : List (ℕ × ℤ)) : Type 0 where
  pub same_said : is_some settings ≡ said
  pub due : sets_due vars (settings_or_none settings) ≡ Ok sets

-- the variables that have a number in a row, with it, where the row begins with the variable of this place
abbrev pub row_sets : ℕ → List (Option ℤ) → List (ℕ × ℤ)
row_sets v [] = []
row_sets v (value ∷ row) = cons_option (option_map (λ x. (v, x)) value) (row_sets (suc v) row)
