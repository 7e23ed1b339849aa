-- Texts and numbers at the start of some bytes.
use Rattle.std.specs.Prelude.{◌≡◌, ◌≢◌, ◌<◌, ◌≤◌, ◌⊎◌, ℕ, ◌^◌, true, List, ◌∷◌, ◌++◌, All, length, slice_index, ℤ, Some, option_and_then}
use Rattle.std.specs.Char.{is_ascii_digit}
use Rattle.std.specs.List.{list_all}
use Rattle.std.specs.Str.Parse.{digits_value}
use Rattle.json.specs.Lex.{between, lex, token}
use Rattle.json.specs.Token.{number}
use Rattle.serde_json.specs.Find.{as_i64}
use Rattle.serde_json.specs.Read.{number_of}

-- in a text such a byte stands for itself: it is no control byte, quote or backslash
abbrev pub IsPlain : ℕ → Type 0
IsPlain byte = (32 ≤ byte) × (byte ≢ 34) × (byte ≢ 92)

-- a text in quotes, and what follows it
pub record IsQuoted (bytes text after : List ℕ) : Type 0 where
  pub same : bytes ≡ 34 ∷ (text ++ 34 ∷ after)
  pub plain : All IsPlain text

-- a comma or a closing brace comes first
pub record EndsValue (bytes : List ℕ) : Type 0 where
  pub rest : List ℕ
  pub first : (bytes ≡ 44 ∷ rest) ⊎ (bytes ≡ 125 ∷ rest)

-- digits, with no zero before others, which write this number, and what follows them
pub record IsWhole (bytes : List ℕ) (value : ℕ) (after : List ℕ) : Type 0 where
  pub digits : List ℕ
  pub same : bytes ≡ digits ++ after
  pub some : 0 < length digits
  pub are : list_all is_ascii_digit digits ≡ true
  pub no_zero : slice_index digits 0 ≡ 48 → length digits ≡ 1
  pub value_is : value ≡ digits_value 10 digits
  pub fits : value < 10 ^ 18

-- the text of this number, if a value ends before what follows it
pub record IsNumber (bytes : List ℕ) (value : ℤ) (after : List ℕ) : Type 0 where
  pub text : List ℕ
  pub lexed : EndsValue after → lex between bytes ≡ token (number text) ∷ lex between after
  pub value_is : option_and_then as_i64 (number_of text) ≡ Some value
