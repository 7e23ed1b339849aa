-- A tool of proofs: nothing that a reader has to believe. The stack of what is open after tokens, the innermost first.
use Rattle.std.specs.Prelude.{if◌then◌else◌, List, [], ◌∷◌, codes}
use Rattle.std.specs.Str.{bytes_eq}
use Rattle.def_format.specs.Tokens.{Token, Word, OpenParen, CloseParen}
use Rattle.def_format.specs.PredicateTexts.{is_and_or}

-- a `(`, or a `not`
pub data Opener : Type 0 where
  Paren : Opener
  Negation : Opener

-- without the negations on top
abbrev pub drop_nots : List Opener → List Opener
drop_nots [] = []
drop_nots (Negation ∷ stack) = drop_nots stack
drop_nots (Paren ∷ stack) = Paren ∷ stack

abbrev pub drop_one : List Opener → List Opener
drop_one [] = []
drop_one (x ∷ stack) = stack

-- what is open after a token
abbrev pub opened : List Opener → Token → List Opener
opened stack OpenParen = Paren ∷ stack
opened stack CloseParen = drop_one (drop_nots stack)
opened stack (Word w) = if bytes_eq w (codes "not") then Negation ∷ stack else
    (if is_and_or w then drop_nots stack else stack)
opened stack _ = stack

abbrev pub all_opened : List Opener → List Token → List Opener
all_opened stack [] = stack
all_opened stack (t ∷ rest) = all_opened (opened stack t) rest
