-- The predicate that a text is, and the fault of a text that is none.
use Rattle.std.specs.Prelude.{◌≡◌, ℕ, zero, suc, ◌+◌, ◌<◌, ◌≤◌, ◌⊎◌, Bool, true, false, IsTrue, ◌&&◌, ◌||◌, nat_lt, if◌then◌else◌, List, [], ◌∷◌, ◌++◌, length, map, Some, None, codes}
use Rattle.std.specs.Str.{bytes_eq}
use Rattle.def_model.specs.Predicates.{Predicate}
use Rattle.def_format.specs.Lists.{IsFirst, is_one_of}
use Rattle.def_format.specs.Names.{ProcessNames, process_named, var_named}
use Rattle.def_format.specs.Tokens.{Token, Word, Digits, OpenParen, CloseParen, Star, Dot, Placed, AreTokens, IsStray}
use Rattle.def_format.specs.Grammar.{NamedBy, SpellsWhole, CanGoOn}
use Rattle.def_format.specs.Limits.{predicate_byte_limit, depth_limit}

abbrev pub tokens_of : List Placed → List Token
tokens_of tokens = map (λ (t : Placed). t.token) tokens

-- ---- numbers

abbrev pub is_star : Token → Bool
is_star Star = true
is_star _ = false

abbrev pub begins_with_star : List Placed → Bool
begins_with_star [] = false
begins_with_star (t ∷ rest) = is_star t.token

-- the greatest number, of 63 bits
abbrev pub number_limit : ℕ
number_limit = 9223372036854775807

-- the greatest number that a variable is multiplied by, of 31 bits
abbrev pub factor_limit : ℕ
factor_limit = 2147483647

-- a number past its limit: past that of factors with `*` after it
abbrev pub is_too_large : Token → List Placed → Bool
is_too_large (Digits n) after = nat_lt number_limit n || (nat_lt factor_limit n && begins_with_star after)
is_too_large _ after = false

abbrev pub IsTooLarge : List Placed → Placed → List Placed → Type 0
IsTooLarge before t after = IsTrue (is_too_large t.token after)

-- ---- depth

-- a `(`, in which this many more are open, is still open after these tokens
abbrev pub paren_is_open : ℕ → List Token → Bool
paren_is_open inner [] = true
paren_is_open inner (OpenParen ∷ rest) = paren_is_open (suc inner) rest
paren_is_open zero (CloseParen ∷ rest) = false
paren_is_open (suc inner) (CloseParen ∷ rest) = paren_is_open inner rest
paren_is_open inner (_ ∷ rest) = paren_is_open inner rest

abbrev pub is_and_or : List ℕ → Bool
is_and_or word = is_one_of (codes "and" ∷ codes "or" ∷ []) word

-- The operand of a `not`, in which this many `(` are open, goes on after these tokens: an `and`, an `or` or a `)`
-- outside of its own parentheses ends it.
abbrev pub operand_is_open : ℕ → List Token → Bool
operand_is_open inner [] = true
operand_is_open inner (OpenParen ∷ rest) = operand_is_open (suc inner) rest
operand_is_open zero (CloseParen ∷ rest) = false
operand_is_open (suc inner) (CloseParen ∷ rest) = operand_is_open inner rest
operand_is_open zero (Word word ∷ rest) = if is_and_or word then false else operand_is_open zero rest
operand_is_open inner (_ ∷ rest) = operand_is_open inner rest

-- the token is a `(` or a `not`
abbrev pub opens : Token → Bool
opens OpenParen = true
opens (Word word) = bytes_eq word (codes "not")
opens _ = false

-- the token encloses what stands after these tokens, which follow it
abbrev pub encloses : Token → List Token → Bool
encloses OpenParen between = paren_is_open 0 between
encloses (Word word) between = bytes_eq word (codes "not") && operand_is_open 0 between
encloses _ between = false

-- how many of the tokens enclose what stands after them
abbrev pub depth_after : List Token → ℕ
depth_after [] = 0
depth_after (token ∷ between) = if encloses token between then suc (depth_after between) else depth_after between

-- ---- faults

pub data PredicateFault : Type 0 where
  Long : PredicateFault
  Character : PredicateFault
  Number : PredicateFault
  Expected : PredicateFault
  UnknownName : PredicateFault
  Depth : PredicateFault

-- no process has this name, which stands where a reference begins, that is, where a dot can follow
abbrev pub IsUnknownProcess : List ProcessNames → List Token → List ℕ → Type 0
IsUnknownProcess names before word = CanGoOn (before ++ Word word ∷ Dot ∷ []) × (process_named names word ≡ None)

-- no variable of the process has this name, which stands after the process's name and a dot
pub record IsUnknownVar (names : List ProcessNames) (before : List Token) (word : List ℕ) : Type 0 where
  pub prefix : List Token
  pub name : List ℕ
  pub process : ℕ
  pub after_dot : before ≡ prefix ++ Word name ∷ Dot ∷ []
  pub fits : CanGoOn (before ++ Word word ∷ [])
  pub is_process : process_named names name ≡ Some process
  pub is_no_var : var_named names process word ≡ None

abbrev pub IsUnknownName : List ProcessNames → List Token → Token → Type 0
IsUnknownName names before (Word word) = IsUnknownProcess names before word ⊎ IsUnknownVar names before word
IsUnknownName names before _ = ⊥

-- the token after these has this fault
abbrev pub IsFaulty : List ProcessNames → PredicateFault → List Token → Token → Type 0
IsFaulty names Expected before token = ¬ (CanGoOn (before ++ token ∷ []))
IsFaulty names UnknownName before token = IsUnknownName names before token
IsFaulty names Depth before token = CanGoOn (before ++ token ∷ []) × IsTrue (opens token)
    × (depth_limit ≤ depth_after before)
IsFaulty names _ before token = ⊥

-- the token after these has some fault
abbrev pub IsMisplaced : List ProcessNames → List Placed → Placed → List Placed → Type 0
IsMisplaced names before t after = (fault : PredicateFault) × IsFaulty names fault (tokens_of before) t.token

-- no number among the tokens is too large
abbrev pub NumbersFit : List Placed → Type 0
NumbersFit tokens = (before : List Placed) (t : Placed) (after : List Placed) → tokens ≡ before ++ t ∷ after
    → ¬ (IsTooLarge before t after)

-- the first misplaced token, and its fault
pub record HasMisplaced (names : List ProcessNames) (text : List ℕ) (fault : PredicateFault) (at : ℕ) : Type 0 where
  pub short : length text ≤ predicate_byte_limit
  pub tokens : List Placed
  pub are_tokens : AreTokens text tokens
  pub numbers_fit : NumbersFit tokens
  pub before : List Placed
  pub token : Token
  pub after : List Placed
  pub first : IsFirst (IsMisplaced names) tokens before (record { at = at; token = token }) after
  pub stands : IsFaulty names fault (tokens_of before) token

-- the first number that is too large
pub record HasTooLarge (text : List ℕ) (at : ℕ) : Type 0 where
  pub short : length text ≤ predicate_byte_limit
  pub tokens : List Placed
  pub are_tokens : AreTokens text tokens
  pub before : List Placed
  pub token : Token
  pub after : List Placed
  pub first : IsFirst IsTooLarge tokens before (record { at = at; token = token }) after

-- the text is refused with this fault at this byte, counted from 1
abbrev pub IsRefusedPredicate : List ProcessNames → List ℕ → PredicateFault → ℕ → Type 0
IsRefusedPredicate names text Long at = (predicate_byte_limit < length text) × (at ≡ predicate_byte_limit + 1)
IsRefusedPredicate names text Character at = (length text ≤ predicate_byte_limit) × IsStray text at
IsRefusedPredicate names text Number at = HasTooLarge text at
IsRefusedPredicate names text Expected at = HasMisplaced names text Expected at
IsRefusedPredicate names text UnknownName at = HasMisplaced names text UnknownName at
IsRefusedPredicate names text Depth at = HasMisplaced names text Depth at

-- The text is this predicate: its tokens spell it, and none is misplaced or too large.
pub record IsPredicate (names : List ProcessNames) (text : List ℕ) (predicate : Predicate) : Type 0 where
  pub short : length text ≤ predicate_byte_limit
  pub tokens : List Placed
  pub are_tokens : AreTokens text tokens
  pub numbers_fit : NumbersFit tokens
  pub well_placed : (before : List Placed) (t : Placed) (after : List Placed) → tokens ≡ before ++ t ∷ after
      → ¬ (IsMisplaced names before t after)
  pub spells : SpellsWhole (NamedBy names) (tokens_of tokens) predicate
