-- The JSON value of bytes, from what `Value::from_slice` ensures.
use Rattle.std.proofs.Common.{◌≡◌, ℕ, List, Bool, true, false, refl}
use Rattle.std.specs.Prelude.{Some, None, IsUtf8}
use Rattle.std.specs.Str.{is_utf8}
use Rattle.std.proofs.lemmas.Str.{IsUtf8-from_is_utf8, is_utf8-from_IsUtf8}
use Rattle.serde_json.specs.Data.{Data}
use Rattle.serde_json.specs.Read.{read}
use Rattle.def_format.specs.Records.{json_value}

pub json_value-some : (bytes : List ℕ) (value : Data) → IsUtf8 bytes → read bytes ≡ Some value
    → json_value bytes ≡ Some value
json_value-some bytes value utf8 e = rw (is_utf8-from_IsUtf8 bytes utf8) e

pub json_value-none : (bytes : List ℕ) → (IsUtf8 bytes → read bytes ≡ None) → json_value bytes ≡ None
json_value-none bytes none = go (is_utf8 bytes) refl
  where
    go : (b : Bool) → is_utf8 bytes ≡ b → json_value bytes ≡ None
    go true e = rw e (none (IsUtf8-from_is_utf8 bytes e))
    go false e = rw e refl
