-- The fields of a JSON object beside the entries of the map that holds them.
use Rattle.std.proofs.Common.{◌≡◌, ℕ, List, [], ◌∷◌, length, map, String, Global, string_bytes, refl, ap, arith}
use Rattle.std.specs.Map.{keys_of}
use Rattle.std.specs.Str.{bytes_eq}
use Rattle.std.specs.Prelude.{◌&&◌, Some, slice_get}
use Rattle.std.specs.List.{list_any, list_all}
use Rattle.serde_json.specs.Data.{member, no_members}
use Rattle.serde_json.specs.View.{view, members_view}
use Rattle.serde_json.specs.declared.value.Value.{Value}
use Rattle.def_format.specs.Records.{has_only}
use Rattle.def_format.proofs.ListTests.{list_any-map}

-- each field is one of these variables, as the program finds it
pub has_only_vars-entries : (vars : List (String Global)) (entries : List (String Global × Value))
    → list_all (λ (key : String Global).
    list_any (λ (var : String Global). bytes_eq (string_bytes key) (string_bytes var)) vars) (keys_of entries)
    ≡ has_only (map string_bytes vars) (members_view entries)
has_only_vars-entries vars [] = refl
has_only_vars-entries vars (entry ∷ entries) =
    rw (list_any-map (λ (var : List ℕ). bytes_eq (string_bytes entry.0) var) (λ (var : String Global). string_bytes var)
    vars)
    (ap (λ b. list_any (λ (var : String Global). bytes_eq (string_bytes entry.0) (string_bytes var)) vars && b)
    (has_only_vars-entries vars entries))

-- an entry that stands alone
pub one_entry : (entries : List (String Global × Value)) (name : String Global) (value : Value) → length entries ≡ 1
    → slice_get entries 0 ≡ Some (name, value)
    → members_view entries ≡ member (string_bytes name) (view value) no_members
one_entry [] name value h e = absurd (omega arith)
one_entry (x ∷ []) name value h e =
    let same : x ≡ (name, value) = cc in
    ap (λ (entry : String Global × Value). member (string_bytes entry.0) (view entry.1) no_members) same
one_entry (x ∷ y ∷ rest) name value h e = absurd (omega arith)
