-- What the lexer finds, step by step, and what its errors mean.
use Rattle.std.specs.Prelude.{◌≡◌, ℕ, List, [], ◌∷◌, ◌++◌, IsFalse}
use Rattle.def_format.specs.Tokens.{Token, IsStray, IsSpelling, IsLongest, AreSpaces, is_space}
use Rattle.pd_pred.specs.declared.lexer.LexError.{LexError}
use Rattle.pd_pred.specs.declared.lexer.LexError.TheVariants.{Stray, Memory}

abbrev pub IsLexErrorOf : List ℕ → LexError → Type 0
IsLexErrorOf text (Stray at) = IsStray text at
IsLexErrorOf text Memory = Unit {0}

-- the rest is what follows all spaces and tabs that the bytes begin with
pub record SkipsSpaces (bytes rest : List ℕ) : Type 0 where
  pub spaces : List ℕ
  pub are_spaces : AreSpaces spaces
  pub parts : bytes ≡ spaces ++ rest
  pub no_more : (byte : ℕ) (others : List ℕ) → rest ≡ byte ∷ others → IsFalse (is_space byte)

-- the bytes are this token, as long as it can be, and then the rest
pub record IsFirstToken (bytes : List ℕ) (token : Token) (rest : List ℕ) : Type 0 where
  pub spelling : List ℕ
  pub parts : bytes ≡ spelling ++ rest
  pub spells : IsSpelling spelling token
  pub longest : IsLongest token rest

-- the bytes are no token
abbrev pub SpellsNoToken : List ℕ → Type 0
SpellsNoToken bytes = (token : Token) → ¬ (IsSpelling bytes token)

-- the first two bytes are no token
abbrev pub BeginsNoDouble : List ℕ → Type 0
BeginsNoDouble bytes = (first second : ℕ) (rest : List ℕ) → bytes ≡ first ∷ second ∷ rest
    → SpellsNoToken (first ∷ second ∷ [])
