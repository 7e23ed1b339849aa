-- Where a reader of tokens is, and which token is misplaced.
use Rattle.std.specs.Prelude.{◌≡◌, ℕ, ◌<◌, ◌≤◌, IsTrue, List, [], ◌∷◌, ◌++◌, length, Option, Some, None}
use Rattle.std.specs.Option.{option_map}
use Rattle.def_format.specs.Lists.{IsFirst}
use Rattle.def_format.specs.Names.{ProcessNames, process_named, var_named}
use Rattle.def_format.specs.Tokens.{Token, Word, Dot, Placed, placed}
use Rattle.def_format.specs.PrefixWalk.{State, Inside, AfterName, AfterDot, step, walk, start}
use Rattle.def_format.specs.OpenerStack.{Opener, opened, all_opened}
use Rattle.def_format.specs.PredicateTexts.{PredicateFault, IsFaulty, IsMisplaced, opens, tokens_of}
use Rattle.def_format.specs.Limits.{depth_limit}
use Rattle.pd_pred.specs.Openers.{openers_view}
use Rattle.pd_pred.specs.States.{parser_state_view}
use Rattle.pd_pred.specs.Views.{predicate_fault_view}
use Rattle.pd_pred.specs.declared.error.PredError.{PredError}
use Rattle.pd_pred.specs.declared.error.PredErrorKind.{PredErrorKind}
use Rattle.pd_pred.specs.declared.error.PredErrorKind.TheVariants as kinds
use Rattle.pd_pred.specs.declared.placement.Place.{Place}

-- a place after tokens: the state of the walk, what is open, and the process that the last name refers to
pub record Position : Type 0 where
  pub state : State
  pub stack : List Opener
  pub process : ℕ

abbrev pub position_view : Place → Position
position_view p = record { state = parser_state_view p.state; stack = openers_view p.openers; process = p.process }

abbrev pub first_position : Position
first_position = record { state = start; stack = []; process = 0 }

-- ---- one token more

-- the process that the last name refers to, after a word that leads to this state and stands after no dot
abbrev pub process_of_word : List ProcessNames → ℕ → State → List ℕ → Option ℕ
process_of_word names process (Inside (AfterName side) parens) word = process_named names word
process_of_word names process _ word = Some process

abbrev pub process_of_any_word : List ProcessNames → State → ℕ → State → List ℕ → Option ℕ
process_of_any_word names (Inside (AfterDot side) parens) process later word =
    option_map (λ var. process) (var_named names process word)
process_of_any_word names _ process later word = process_of_word names process later word

-- the process that the last name refers to after a token that leads from one state to another; none if the token is
-- an unknown name
abbrev pub process_after : List ProcessNames → State → ℕ → State → Token → Option ℕ
process_after names state process later (Word word) = process_of_any_word names state process later word
process_after names state process later _ = Some process

-- the number is that of a process, if a name was read last
abbrev pub IsInNames : List ProcessNames → State → ℕ → Type 0
IsInNames names (Inside (AfterName side) parens) process = process < length names
IsInNames names (Inside (AfterDot side) parens) process = process < length names
IsInNames names _ process = Unit {0}

-- the token may stand at the old place, and leads to the new one
pub record Steps (names : List ProcessNames) (old : Position) (token : Token) (new : Position) : Type 0 where
  pub goes_on : step old.state token ≡ Some new.state
  pub opens_more : new.stack ≡ opened old.stack token
  pub has_room : IsTrue (opens token) → length old.stack < depth_limit
  pub is_known : process_after names old.state old.process new.state token ≡ Some new.process

-- what is wrong with the token at the place
abbrev pub IsFaultAt : List ProcessNames → Position → Token → PredErrorKind → Type 0
IsFaultAt names place token kinds.Expected = step place.state token ≡ None
IsFaultAt names place token kinds.UnknownName = (later : State) × (step place.state token ≡ Some later)
    × (process_after names place.state place.process later token ≡ None)
IsFaultAt names place token kinds.Depth = (later : State) × (step place.state token ≡ Some later) × IsTrue (opens token)
    × (depth_limit ≤ length place.stack)
IsFaultAt names place token _ = ⊥

-- ---- all tokens

-- no token is misplaced
abbrev pub IsWellPlaced : List ProcessNames → List Placed → Type 0
IsWellPlaced names tokens = (before : List Placed) (t : Placed) (after : List Placed) → tokens ≡ before ++ t ∷ after
    → ¬ (IsMisplaced names before t after)

-- the error is that of the first misplaced token
pub record IsFirstMisplaced (names : List ProcessNames) (tokens : List Placed) (error : PredError) : Type 0 where
  pub fault : PredicateFault
  pub is_fault : predicate_fault_view error.kind ≡ Some fault
  pub before : List Placed
  pub token : Token
  pub after : List Placed
  pub first : IsFirst (IsMisplaced names) tokens before (placed error.at token) after
  pub stands : IsFaulty names fault (tokens_of before) token

-- the last name before a dot, or before the end, refers to the process
abbrev pub IsLastName : List ProcessNames → List Token → State → ℕ → Type 0
IsLastName names before (Inside (AfterName side) parens) process =
    (prefix : List Token) × (name : List ℕ) × (before ≡ prefix ++ Word name ∷ [])
    × (process_named names name ≡ Some process)
IsLastName names before (Inside (AfterDot side) parens) process =
    (prefix : List Token) × (name : List ℕ) × (before ≡ prefix ++ Word name ∷ Dot ∷ [])
    × (process_named names name ≡ Some process)
IsLastName names before _ process = Unit {0}

-- the place is the one after these tokens
pub record StandsAfter (names : List ProcessNames) (place : Position) (before : List Token) : Type 0 where
  pub is_walked : walk start before ≡ Some place.state
  pub is_open : place.stack ≡ all_opened [] before
  pub is_named : IsLastName names before place.state place.process

-- the place is the one after these tokens, of which none is misplaced
pub record IsSoundPlace (names : List ProcessNames) (place : Position) (tokens : List Placed) : Type 0 where
  pub stands : StandsAfter names place (tokens_of tokens)
  pub well_placed : IsWellPlaced names tokens
