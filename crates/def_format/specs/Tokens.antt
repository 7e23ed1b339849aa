-- Which bytes of a predicate's text are which tokens.
use Rattle.std.specs.Prelude.{◌≡◌, ℕ, ◌+◌, ◌*◌, ◌-◌, Bool, false, IsTrue, IsFalse, ◌&&◌, ◌||◌, ◌==◌, List, [], ◌∷◌, ◌++◌, length, codes}
use Rattle.std.specs.List.{list_all}
use Rattle.def_model.specs.Predicates.{Sign, Plus, Minus, Comparison, Equals, Differs, IsLess, IsAtMost, IsGreater, IsAtLeast}
use Rattle.def_format.specs.Names.{is_digit, is_in_word, is_word}

pub data Token : Type 0 where
  Word : List ℕ → Token
  Digits : ℕ → Token
  OpenParen : Token
  CloseParen : Token
  Relates : Comparison → Token
  Signs : Sign → Token
  Star : Token
  Dot : Token
  End : Token

-- a token, with the number of its first byte, counted from 1
pub record Placed : Type 0 where
  pub at : ℕ
  pub token : Token

abbrev pub placed : ℕ → Token → Placed
placed at token = record { at = at; token = token }

-- the number that digits write, after one that was written before
abbrev pub number_from : ℕ → List ℕ → ℕ
number_from n [] = n
number_from n (digit ∷ rest) = number_from (10 * n + (digit - 48)) rest

abbrev pub is_digits : List ℕ → Bool
is_digits [] = false
is_digits (byte ∷ rest) = is_digit byte && list_all is_digit rest

abbrev pub comparison_text : Comparison → List ℕ
comparison_text Equals = codes "=="
comparison_text Differs = codes "!="
comparison_text IsLess = codes "<"
comparison_text IsAtMost = codes "<="
comparison_text IsGreater = codes ">"
comparison_text IsAtLeast = codes ">="

abbrev pub sign_text : Sign → List ℕ
sign_text Plus = codes "+"
sign_text Minus = codes "-"

-- these bytes are this token
abbrev pub IsSpelling : List ℕ → Token → Type 0
IsSpelling bytes (Word word) = IsTrue (is_word bytes) × (word ≡ bytes)
IsSpelling bytes (Digits n) = IsTrue (is_digits bytes) × (n ≡ number_from 0 bytes)
IsSpelling bytes OpenParen = bytes ≡ codes "("
IsSpelling bytes CloseParen = bytes ≡ codes ")"
IsSpelling bytes (Relates comparison) = bytes ≡ comparison_text comparison
IsSpelling bytes (Signs sign) = bytes ≡ sign_text sign
IsSpelling bytes Star = bytes ≡ codes "*"
IsSpelling bytes Dot = bytes ≡ codes "."
IsSpelling bytes End = ⊥

-- the byte would make the token longer
abbrev pub continues : Token → ℕ → Bool
continues (Word word) byte = is_in_word byte
continues (Digits n) byte = is_digit byte
continues (Relates IsLess) byte = byte == 61
continues (Relates IsGreater) byte = byte == 61
continues _ byte = false

-- a token before these bytes is as long as it can be
abbrev pub IsLongest : Token → List ℕ → Type 0
IsLongest token [] = Unit {0}
IsLongest token (byte ∷ rest) = IsFalse (continues token byte)

-- space or tab
abbrev pub is_space : ℕ → Bool
is_space byte = byte == 32 || byte == 9

abbrev pub AreSpaces : List ℕ → Type 0
AreSpaces bytes = IsTrue (list_all is_space bytes)

-- The bytes, of which the first is number at, are spaces and these tokens, each as long as it can be, and then the
-- rest, of which the first is number end.
abbrev pub Lexes : ℕ → List ℕ → List Placed → ℕ → List ℕ → Type 0
Lexes at bytes [] end rest = (spaces : List ℕ) × AreSpaces spaces × (bytes ≡ spaces ++ rest)
    × (end ≡ at + length spaces)
Lexes at bytes (t ∷ tokens) end rest = (spaces spelling others : List ℕ) × AreSpaces spaces
    × (bytes ≡ spaces ++ (spelling ++ others)) × (t.at ≡ at + length spaces) × IsSpelling spelling t.token
    × IsLongest t.token others × Lexes (t.at + length spelling) others tokens end rest

-- the text is these tokens; the end counts as one, after the last byte
abbrev pub AreTokens : List ℕ → List Placed → Type 0
AreTokens text all = (tokens : List Placed) × (all ≡ tokens ++ placed (length text + 1) End ∷ [])
    × Lexes 1 text tokens (length text + 1) []

-- no token stands at the front of the bytes
abbrev pub BeginsNoToken : List ℕ → Type 0
BeginsNoToken bytes = (spelling rest : List ℕ) (token : Token) → bytes ≡ spelling ++ rest
    → ¬ (IsSpelling spelling token)

-- byte number at begins no token, and isn't space or tab; those before it are tokens
pub record IsStray (text : List ℕ) (at : ℕ) : Type 0 where
  pub tokens : List Placed
  pub byte : ℕ
  pub rest : List ℕ
  pub before : Lexes 1 text tokens at (byte ∷ rest)
  pub no_space : IsFalse (is_space byte)
  pub no_token : BeginsNoToken (byte ∷ rest)
