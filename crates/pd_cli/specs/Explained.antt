-- An explanation on the errors, for a person, before what is reported there.
use Rattle.std.specs.Prelude.{◌≡◌, ℕ, Bool, false, List, Option, codes, string_bytes, String}
use Rattle.std.specs.Str.{bytes_eq}
use Rattle.std.specs.Global.{Global}
use Rattle.std.specs.Io.KnownBytes.{Appends}

-- An explanation is written to the errors: any text, and nothing at all if none is wanted.
pub record IsExplained (is_wanted : Bool) (old new : Option (List ℕ)) : Type 0 where
  pub text : List ℕ
  pub appended : Appends old new text
  pub unwanted : is_wanted ≡ false → new ≡ old

-- First an explanation is written to the errors; of what stands there then, P holds. So if none is wanted, P holds of
-- what stood there.
pub record Explained (is_wanted : Bool) (P : (start : Option (List ℕ)) → Type 0) (old : Option (List ℕ)) : Type 0 where
  pub start : Option (List ℕ)
  pub explanation : IsExplained is_wanted old start
  pub reported : P start

-- whether an argument is the word that asks for explanations
abbrev pub is_explain_word : String Global → Bool
is_explain_word argument = bytes_eq (string_bytes argument) (codes "--explain")
