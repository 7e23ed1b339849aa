-- Which fields say a join, the end or an event.
use Rattle.std.proofs.Common.{◌≡◌, ◌≢◌, ℕ, true, false, List, [], ◌∷◌, length, String, Global, string_bytes, refl}
use Rattle.std.specs.Prelude.{Option, None}
use Rattle.serde_json.specs.Data.{Data, null, boolean, number, string, array, object, Members, member}
use Rattle.serde_json.specs.View.{view, members_view}
use Rattle.serde_json.specs.declared.value.Value.{Value}
use Rattle.def_format.specs.Lists.{first_some}
use Rattle.def_format.specs.Records.{Statement, join_statement, end_statement}

abbrev lone_statement : Members → Option Statement
lone_statement fields = first_some (join_statement fields) (end_statement fields)

-- of two fields or more none is a join, and none the end
two_fields : (key : List ℕ) (value : Data) (other : List ℕ) (second : Data) (others : Members)
    → lone_statement (member key value (member other second others)) ≡ None
two_fields key null other second others = refl
two_fields key (boolean true) other second others = refl
two_fields key (boolean false) other second others = refl
two_fields key (number n) other second others = refl
two_fields key (string s) other second others = refl
two_fields key (array items) other second others = refl
two_fields key (object fields) other second others = refl

pub none_alone : (entries : List (String Global × Value)) → length entries ≢ 1 → lone_statement (members_view entries)
    ≡ None
none_alone [] h = refl
none_alone (x ∷ []) h = absurd (h refl)
none_alone (x ∷ y ∷ rest) h = two_fields (string_bytes x.0) (view x.1) (string_bytes y.0) (view y.1) (members_view rest)
