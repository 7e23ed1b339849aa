-- The members of a JSON object beside the entries of the map that holds them.
use Rattle.std.proofs.Common.{◌≡◌, ℕ, List, [], ◌∷◌, Bool, Bor, length, map, String, Global, string_bytes, refl, ap}
use Rattle.std.specs.Map.{keys_of, values_of}
use Rattle.std.specs.Str.{bytes_eq}
use Rattle.std.specs.Prelude.{◌&&◌}
use Rattle.std.proofs.lemmas.List.{length-map}
use Rattle.def_format.proofs.ListTests.{list_any-map}
use Rattle.std.specs.List.{list_any, list_all}
use Rattle.serde_json.specs.Data.{Data}
use Rattle.serde_json.specs.View.{view, members_view}
use Rattle.serde_json.specs.declared.value.Value.{Value}
use Rattle.def_format.specs.Records.{keys, values, has_only}

pub keys-members_view : (entries : List (String Global × Value))
    → keys (members_view entries) ≡ map (λ entry. string_bytes entry.0) entries
keys-members_view [] = refl
keys-members_view (entry ∷ entries) = ap (λ others. string_bytes entry.0 ∷ others) (keys-members_view entries)

pub values-members_view : (entries : List (String Global × Value))
    → values (members_view entries) ≡ map (λ entry. view entry.1) entries
values-members_view [] = refl
values-members_view (entry ∷ entries) = ap (λ others. view entry.1 ∷ others) (values-members_view entries)

-- each field is one of these names, as the program finds it
pub has_only-entries : (names : List (Bor (List ℕ))) (entries : List (String Global × Value))
    → list_all (λ (key : String Global). list_any (λ (other : Bor (List ℕ)). bytes_eq (string_bytes key) other.now)
    names) (keys_of entries) ≡ has_only (map (λ name. name.now) names) (members_view entries)
has_only-entries names [] = refl
has_only-entries names (entry ∷ entries) =
    rw (list_any-map (λ (other : List ℕ). bytes_eq (string_bytes entry.0) other) (λ (other : Bor (List ℕ)). other.now)
    names)
    (ap (λ b. list_any (λ (other : Bor (List ℕ)). bytes_eq (string_bytes entry.0) other.now) names && b)
    (has_only-entries names entries))

-- there are as many fields as entries
pub keys-length : (entries : List (String Global × Value)) → length (keys (members_view entries)) ≡ length entries
keys-length entries =
    rw (keys-members_view entries) (length-map entries (λ (entry : String Global × Value). string_bytes entry.0))

-- a test of each value
pub all_values-entries : (test : Data → Bool) (entries : List (String Global × Value))
    → list_all (λ (value : Value). test (view value)) (values_of entries)
    ≡ list_all test (values (members_view entries))
all_values-entries test [] = refl
all_values-entries test (entry ∷ entries) = ap (λ b. test (view entry.1) && b) (all_values-entries test entries)
