-- The field of a JSON object beside the entries of the map that holds it.
use Rattle.std.proofs.Common.{◌≡◌, List, [], ◌∷◌, length, String, Global, string_bytes, ap, arith}
use Rattle.std.specs.Prelude.{Some, slice_get}
use Rattle.serde_json.specs.Data.{member, no_members}
use Rattle.serde_json.specs.View.{view, members_view}
use Rattle.serde_json.specs.declared.value.Value.{Value}

-- an entry that stands alone
pub one_entry : (entries : List (String Global × Value)) (name : String Global) (value : Value) → length entries ≡ 1
    → slice_get entries 0 ≡ Some (name, value)
    → members_view entries ≡ member (string_bytes name) (view value) no_members
one_entry [] name value h e = absurd (omega arith)
one_entry (x ∷ []) name value h e =
    let same : x ≡ (name, value) = cc in
    ap (λ (entry : String Global × Value). member (string_bytes entry.0) (view entry.1) no_members) same
one_entry (x ∷ y ∷ rest) name value h e = absurd (omega arith)
