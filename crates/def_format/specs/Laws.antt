-- What holds of the definitions. Each is proved at a function of the crate.
use Rattle.std.specs.Prelude.{◌≡◌, ◌↔◌, ◌≤◌, ◌⊎◌, ℕ, true, length, List, [], ◌∷◌, ◌++◌, Some, None, option_and_then}
use Rattle.def_model.specs.Predicates.{Predicate}
use Rattle.def_format.specs.Names.{ProcessNames, AreDistinct}
use Rattle.def_format.specs.Tokens.{Token, Placed, AreTokens}
use Rattle.def_format.specs.Reports.{Report, IsReport, IsNoReport}
use Rattle.def_format.specs.PredicateTexts.{PredicateFault, IsPredicate, IsRefusedPredicate, depth_after}
use Rattle.def_format.specs.Grammar.{NamedBy, SpellsWhole, CanGoOn}
use Rattle.def_format.specs.PrefixWalk.{State, walk, begins}
use Rattle.def_format.specs.OpenerStack.{Opener, all_opened}
use Rattle.def_format.specs.Readings.{Ending, Open, reading, IsClosed}
use Rattle.def_format.specs.Lines.{Line, FrameFault, open_lines, finished_lines, frame_fault, fault_of_byte, IsBatch}
use Rattle.def_format.specs.Limits.{line_byte_limit}

-- the lines of more bytes begin with the lines of these
abbrev pub LinesGoOn : Type 0
LinesGoOn = (bytes more : List ℕ) → (new : List Line) × (open_lines (bytes ++ more) ≡ open_lines bytes ++ new)

-- bytes after a fault change nothing
pub record StaysFaulty (bytes more : List ℕ) (fault : FrameFault) : Type 0 where
  pub same_fault : frame_fault (bytes ++ more) ≡ Some fault
  pub same_lines : open_lines (bytes ++ more) ≡ open_lines bytes
  pub same_finished : finished_lines (bytes ++ more) ≡ open_lines bytes

abbrev pub FaultStays : Type 0
FaultStays = (bytes more : List ℕ) (fault : FrameFault) → frame_fault bytes ≡ Some fault → StaysFaulty bytes more fault

-- A fault stands where some byte has it and none before it has one.
pub record IsFirstFault (bytes : List ℕ) (fault : FrameFault) : Type 0 where
  pub before : List ℕ
  pub byte : ℕ
  pub after : List ℕ
  pub parts : bytes ≡ before ++ byte ∷ after
  pub here : fault_of_byte before byte ≡ Some fault
  pub none_before : (prefix : List ℕ) (x : ℕ) (back : List ℕ) → before ≡ prefix ++ x ∷ back
      → fault_of_byte prefix x ≡ None

abbrev pub FaultIsFirst : Type 0
FaultIsFirst = (bytes : List ℕ) (fault : FrameFault) → (frame_fault bytes ≡ Some fault) ↔ IsFirstFault bytes fault

-- what pieces give one after another, after these bytes
abbrev pub AreBatches : List ℕ → List (List ℕ) → List (List Line) → Type 0
AreBatches before [] [] = Unit {0}
AreBatches before [] (b ∷ batches) = ⊥
AreBatches before (p ∷ pieces) [] = ⊥
AreBatches before (p ∷ pieces) (b ∷ batches) = IsBatch before p b (frame_fault (before ++ p))
    × AreBatches (before ++ p) pieces batches

abbrev pub joined : {A : Type 0} → List (List A) → List A
joined [] = []
joined (x ∷ rest) = x ++ joined rest

-- however the bytes are cut into pieces, the lines are the same
abbrev pub CutsDontMatter : Type 0
CutsDontMatter = (pieces : List (List ℕ)) (batches : List (List Line)) → AreBatches [] pieces batches
    → joined batches ≡ open_lines (joined pieces)

-- bytes that are no more than a line may have are sound
abbrev pub ShortIsSound : Type 0
ShortIsSound = (bytes : List ℕ) → length bytes ≤ line_byte_limit → frame_fault bytes ≡ None

-- Nothing depends on what follows the end line or a fault, nor on how the bytes end then.
abbrev pub ClosedStays : Type 0
ClosedStays = (names : List ProcessNames) (ending : Ending) (bytes more : List ℕ)
    → IsClosed (reading names Open bytes).stop → reading names ending (bytes ++ more) ≡ reading names Open bytes

-- two names refer to one variable at most
abbrev pub AreClear : List ProcessNames → Type 0
AreClear names = (process var : List ℕ) (p v q w : ℕ) → NamedBy names process var p v → NamedBy names process var q w
    → (p ≡ q) × (v ≡ w)

-- names that differ refer to one variable at most
abbrev pub DistinctAreClear : Type 0
DistinctAreClear = (names : List ProcessNames) → AreDistinct names → AreClear names

-- no tokens spell two predicates
abbrev pub NoTwoTrees : Type 0
NoTwoTrees = (names : List ProcessNames) → AreClear names → (tokens : List Token) (a b : Predicate)
    → SpellsWhole (NamedBy names) tokens a → SpellsWhole (NamedBy names) tokens b → a ≡ b

-- of any tokens it can be reported whether they begin a predicate's
abbrev pub PrefixesAreDecided : Type 0
PrefixesAreDecided = (tokens : List Token) → CanGoOn tokens ⊎ (¬ (CanGoOn tokens))

-- the walk finds which tokens begin a predicate's
abbrev pub PrefixesAreWalked : Type 0
PrefixesAreWalked = (tokens : List Token) → (begins tokens ≡ true) ↔ CanGoOn tokens

-- a walk over joined tokens is a walk over the first and then over the others
abbrev pub WalksGoOn : Type 0
WalksGoOn = (from : State) (tokens more : List Token)
    → walk from (tokens ++ more) ≡ option_and_then (λ to. walk to more) (walk from tokens)

-- the depth after tokens is the height of the stack of what is open
abbrev pub DepthsAreHeights : Type 0
DepthsAreHeights = (tokens : List Token) → depth_after tokens ≡ length (all_opened [] tokens)

-- what is open after joined tokens
abbrev pub StacksGoOn : Type 0
StacksGoOn = (stack : List Opener) (tokens more : List Token) → all_opened stack (tokens ++ more)
    ≡ all_opened (all_opened stack tokens) more

-- a text is tokens in one way
abbrev pub OneTokenList : Type 0
OneTokenList = (text : List ℕ) (all others : List Placed) → AreTokens text all → AreTokens text others → all ≡ others

-- a text is one predicate
abbrev pub OnePredicate : Type 0
OnePredicate = (names : List ProcessNames) → AreClear names → (text : List ℕ) (a b : Predicate)
    → IsPredicate names text a → IsPredicate names text b → a ≡ b

-- no text is a predicate and refused
abbrev pub PredicateNotRefused : Type 0
PredicateNotRefused = (names : List ProcessNames) (text : List ℕ) (a : Predicate) (fault : PredicateFault) (at : ℕ)
    → IsPredicate names text a → IsRefusedPredicate names text fault at → ⊥

-- a text is refused with one fault, at one place
abbrev pub RefusedOnce : Type 0
RefusedOnce = (names : List ProcessNames) (text : List ℕ) (f g : PredicateFault) (at other : ℕ)
    → IsRefusedPredicate names text f at → IsRefusedPredicate names text g other → (f ≡ g) × (at ≡ other)

-- no two lawful reports share a text
abbrev pub OneReport : Type 0
OneReport = (bytes : List ℕ) (r s : Report) → IsReport bytes r → IsReport bytes s → r ≡ s

-- bytes stop being a report at one line
abbrev pub StopsAtOneLine : Type 0
StopsAtOneLine = (bytes : List ℕ) (line other : ℕ) → IsNoReport bytes line → IsNoReport bytes other → line ≡ other
