-- Which tokens spell which predicate.
use Rattle.std.specs.Prelude.{◌≡◌, ℕ, IsFalse, List, [], ◌∷◌, ◌++◌, codes, Some, slice_get}
use Rattle.def_model.specs.Predicates.{Term, Number, Variable, Times, Sign, Plus, Minus, Comparison, Predicate, Always, Never, Compare, Not, And, Or}
use Rattle.def_format.specs.Names.{is_keyword, ProcessNames}
use Rattle.def_format.specs.Tokens.{Token, Word, Digits, OpenParen, CloseParen, Relates, Signs, Star, Dot, End}

-- which process and variable, by their numbers, two names refer to
abbrev pub Naming : Type 1
Naming = List ℕ → List ℕ → ℕ → ℕ → Type 0

-- by the processes of a session
abbrev pub NamedBy : List ProcessNames → Naming
NamedBy names process var p v =
    (entry : ProcessNames) × (slice_get names p ≡ Some entry) × (entry.name ≡ process)
    × (slice_get entry.vars v ≡ Some var)

-- if all names are taken as known
abbrev pub AnyName : Naming
AnyName process var p v = Unit {0}

-- a name, a dot and a name
abbrev pub SpellsReference : Naming → List Token → ℕ → ℕ → Type 0
SpellsReference Refers tokens p v = (process var : List ℕ) × (tokens ≡ Word process ∷ Dot ∷ Word var ∷ [])
    × IsFalse (is_keyword process) × IsFalse (is_keyword var) × Refers process var p v

-- a number, a reference, or a number times a reference
abbrev pub SpellsTerm : Naming → List Token → Term → Type 0
SpellsTerm Refers tokens (Number n) = tokens ≡ Digits n ∷ []
SpellsTerm Refers tokens (Variable p v) = SpellsReference Refers tokens p v
SpellsTerm Refers tokens (Times n p v) = (factor : List Token) × (tokens ≡ Digits n ∷ Star ∷ factor)
    × SpellsReference Refers factor p v

-- terms, each with its sign before it
abbrev pub SpellsSigned : Naming → List Token → List (Sign × Term) → Type 0
SpellsSigned Refers tokens [] = tokens ≡ []
SpellsSigned Refers tokens ((sign, term) ∷ others) = (prefix back : List Token)
    × (tokens ≡ Signs sign ∷ (prefix ++ back)) × SpellsTerm Refers prefix term × SpellsSigned Refers back others

-- A sum is signed terms; if the first sign is plus, it isn't written.
abbrev pub SpellsSum : Naming → List Token → List (Sign × Term) → Type 0
SpellsSum Refers tokens [] = ⊥
SpellsSum Refers tokens ((Plus, term) ∷ others) = SpellsSigned Refers (Signs Plus ∷ tokens) ((Plus, term) ∷ others)
SpellsSum Refers tokens ((Minus, term) ∷ others) = SpellsSigned Refers tokens ((Minus, term) ∷ others)

-- the rules of the grammar, from the loosest to the tightest
pub data Rule : Type 0 where
  OrRule : Rule
  AndRule : Rule
  NotRule : Rule

abbrev pub word_or : Token
word_or = Word (codes "or")

abbrev pub word_and : Token
word_and = Word (codes "and")

abbrev pub word_not : Token
word_not = Word (codes "not")

-- by this rule the tokens spell this predicate; a row of `or` or `and` is taken together from the left
pub data Spells (Refers : Naming) : Rule → List Token → Predicate → Type 0 where
  either : (left right : List Token) {a b : Predicate} → Spells Refers OrRule left a → Spells Refers AndRule right b
      → Spells Refers OrRule (left ++ word_or ∷ right) (Or a b)
  no_or : {tokens : List Token} {a : Predicate} → Spells Refers AndRule tokens a → Spells Refers OrRule tokens a
  both : (left right : List Token) {a b : Predicate} → Spells Refers AndRule left a → Spells Refers NotRule right b
      → Spells Refers AndRule (left ++ word_and ∷ right) (And a b)
  no_and : {tokens : List Token} {a : Predicate} → Spells Refers NotRule tokens a → Spells Refers AndRule tokens a
  negated : {tokens : List Token} {a : Predicate} → Spells Refers NotRule tokens a
      → Spells Refers NotRule (word_not ∷ tokens) (Not a)
  in_parens : (tokens : List Token) {a : Predicate} → Spells Refers OrRule tokens a
      → Spells Refers NotRule (OpenParen ∷ (tokens ++ CloseParen ∷ [])) a
  always : Spells Refers NotRule (Word (codes "true") ∷ []) Always
  never : Spells Refers NotRule (Word (codes "false") ∷ []) Never
  compare : (left right : List Token) {xs ys : List (Sign × Term)} {comparison : Comparison} → SpellsSum Refers left xs
      → SpellsSum Refers right ys → Spells Refers NotRule (left ++ Relates comparison ∷ right)
      (Compare xs comparison ys)

-- the tokens of a whole text, with the end, spell this predicate
abbrev pub SpellsWhole : Naming → List Token → Predicate → Type 0
SpellsWhole Refers tokens a = (inner : List Token) × (tokens ≡ inner ++ End ∷ []) × Spells Refers OrRule inner a

-- the tokens begin those of some predicate, if all names are taken as known
abbrev pub CanGoOn : List Token → Type 0
CanGoOn tokens = (more : List Token) × (a : Predicate) × SpellsWhole AnyName (tokens ++ more) a
