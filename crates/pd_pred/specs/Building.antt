-- What is read from the first tokens, and where a walk over them is then.
use Rattle.std.specs.Prelude.{◌≡◌, ℕ, ◌<◌, ◌≤◌, ◌+◌, Bool, true, false, IsFalse, List, [], ◌∷◌, ◌++◌, length, Some}
use Rattle.std.specs.Str.{bytes_eq}
use Rattle.def_model.specs.Predicates.{Term, Sign, Plus, Minus, Predicate}
use Rattle.def_format.specs.Names.{ProcessNames, process_named, var_named}
use Rattle.def_format.specs.Limits.{predicate_byte_limit}
use Rattle.def_format.specs.Tokens.{Token, Word, Digits, Relates, Dot, Signs}
use Rattle.def_format.specs.PredicateTexts.{tokens_of, NumbersFit, is_star}
use Rattle.def_format.specs.Grammar.{NamedBy, SpellsTerm, SpellsSum, Rule, Spells}
use Rattle.def_format.specs.PrefixWalk.{Side, Mode, AtTerm, AtOperand, AfterTerm, AfterOperand, Inside, AtEnd, walk}
use Rattle.pd_pred.specs.Tokens.{lexed_view, token_view}
use Rattle.pd_pred.specs.declared.token.Placed.{Placed}

-- the tokens of the grammar that these stand for
abbrev pub tokens_view : List Placed → List Token
tokens_view tokens = tokens_of (lexed_view tokens)

-- ---- what the tokens begin with

-- the first token is this one, and the rest follows it
pub record Follows (token : Token) (tokens rest : List Placed) : Type 0 where
  pub first : Placed
  pub parts : tokens ≡ first ∷ rest
  pub is : token_view first.token ≡ token

abbrev pub is_this : List ℕ → Token → Bool
is_this word (Word w) = bytes_eq w word
is_this word _ = false

abbrev pub begins_with_word : List ℕ → List Token → Bool
begins_with_word word [] = false
begins_with_word word (t ∷ rest) = is_this word t

abbrev pub is_sign : Token → Bool
is_sign (Signs sign) = true
is_sign _ = false

abbrev pub begins_with_sign : List Token → Bool
begins_with_sign [] = false
begins_with_sign (t ∷ rest) = is_sign t

abbrev pub is_number : Token → Bool
is_number (Digits n) = true
is_number _ = false

abbrev pub begins_with_number : List Token → Bool
begins_with_number [] = false
begins_with_number (t ∷ rest) = is_number t

abbrev pub begins_with_star : List Token → Bool
begins_with_star [] = false
begins_with_star (t ∷ rest) = is_star t

abbrev pub is_any_word : Token → Bool
is_any_word (Word w) = true
is_any_word _ = false

abbrev pub begins_with_any_word : List Token → Bool
begins_with_any_word [] = false
begins_with_any_word (t ∷ rest) = is_any_word t

abbrev pub is_relation : Token → Bool
is_relation (Relates comparison) = true
is_relation _ = false

abbrev pub begins_with_relation : List Token → Bool
begins_with_relation [] = false
begins_with_relation (t ∷ rest) = is_relation t

-- the tokens after a first minus
abbrev pub without_minus : List Token → List Token
without_minus [] = []
without_minus (Signs Minus ∷ rest) = rest
without_minus (t ∷ rest) = t ∷ rest

-- The sign of a first term: a minus that is written, or else a plus that isn't.
abbrev pub IsFirstSign : Sign → List Placed → List Placed → Type 0
IsFirstSign Minus tokens rest = Follows (Signs Minus) tokens rest
IsFirstSign Plus tokens rest = (tokens ≡ rest) × IsFalse (begins_with_sign (tokens_view tokens))

-- ---- where a walk is

-- from this mode, inside some number of parentheses, the tokens lead to the end
abbrev pub Leads : Mode → List Token → Type 0
Leads mode tokens = (d : ℕ) × (walk (Inside mode d) tokens ≡ Some AtEnd)

-- the same on some side of a comparison
abbrev pub LeadsOnSide : (Side → Mode) → List Token → Type 0
LeadsOnSide mode tokens = (side : Side) × Leads (mode side) tokens

-- If the tokens lead to the end from the one mode, the rest does from the other.
abbrev pub GoesOn : Mode → List Token → Mode → List Token → Type 0
GoesOn from tokens to rest = (d : ℕ) → walk (Inside from d) tokens ≡ Some AtEnd → walk (Inside to d) rest ≡ Some AtEnd

-- ---- what may be assumed of tokens

-- the names refer to a variable
abbrev pub IsKnown : List ProcessNames → List ℕ → List ℕ → Type 0
IsKnown names process var = (p v : ℕ) × (process_named names process ≡ Some p) × (var_named names p var ≡ Some v)

-- each reference is known, no number is too large, and there are few tokens
pub record AreReadable (names : List ProcessNames) (tokens : List Placed) : Type 0 where
  pub known : (before after : List Token) (process var : List ℕ) → tokens_view tokens ≡ before ++ Word process ∷ Dot
      ∷ Word var ∷ after → IsKnown names process var
  pub fit : NumbersFit (lexed_view tokens)
  pub few : length tokens ≤ predicate_byte_limit + 1

-- ---- what is read

-- a term
pub record IsTermRead (names : List ProcessNames) (from : Side → Mode) (tokens rest : List Placed) (term : Term) :
    Type 0 where
  pub prefix : List Placed
  pub parts : tokens ≡ prefix ++ rest
  pub fewer : length rest < length tokens
  pub spells : SpellsTerm (NamedBy names) (tokens_view prefix) term
  pub goes_on : (side : Side) → GoesOn (from side) (tokens_view tokens) (AfterTerm side) (tokens_view rest)

-- a sum
pub record IsSumRead (names : List ProcessNames) (tokens rest : List Placed) (terms : List (Sign × Term)) : Type 0 where
  pub prefix : List Placed
  pub parts : tokens ≡ prefix ++ rest
  pub fewer : length rest < length tokens
  pub spells : SpellsSum (NamedBy names) (tokens_view prefix) terms
  pub goes_on : (side : Side) → GoesOn (AtTerm side) (without_minus (tokens_view tokens)) (AfterTerm side)
      (tokens_view rest)

-- a predicate by a rule of the grammar
pub record IsRead (names : List ProcessNames) (rule : Rule) (tokens rest : List Placed) (predicate : Predicate) :
    Type 0 where
  pub prefix : List Placed
  pub parts : tokens ≡ prefix ++ rest
  pub fewer : length rest < length tokens
  pub spells : Spells (NamedBy names) rule (tokens_view prefix) predicate
  pub goes_on : GoesOn AtOperand (tokens_view tokens) AfterOperand (tokens_view rest)
