-- Which tokens lead the walk to a name and to a dot.
use Rattle.std.proofs.Common.{◌≡◌, ℕ, zero, suc, List, refl, subst}
use Rattle.std.specs.Prelude.{Option, Some, None}
use Rattle.def_model.specs.Predicates.{Plus, Minus}
use Rattle.def_format.specs.Tokens.{Token, Word, Relates, Signs, Star, Dot, End}
use Rattle.def_format.specs.PrefixWalk.{WordKind, ANot, AJoin, ATruth, AName, word_kind, OnLeft, OnRight, Mode, AtOperand, AtSum, AtTerm, AfterNumber, AfterStar, AfterName, AfterDot, AfterTerm, AfterOperand, State, Inside, AtEnd, step, operand_word, if_name, if_join}

-- after a process's name
abbrev pub IsAfterName : State → Type 0
IsAfterName (Inside (AfterName side) parens) = Unit {0}
IsAfterName _ = ⊥

-- after a dot
abbrev pub IsAfterDot : State → Type 0
IsAfterDot (Inside (AfterDot side) parens) = Unit {0}
IsAfterDot _ = ⊥

abbrev pub IsAfterNoDot : State → Type 0
IsAfterNoDot (Inside (AfterDot side) parens) = ⊥
IsAfterNoDot _ = Unit {0}

-- what leads after a name and after a dot, and to the end
abbrev pub Into : State → Token → State → Type 0
Into s t (Inside (AfterName side) parens) = (word : List ℕ) × (t ≡ Word word) × IsAfterNoDot s
Into s t (Inside (AfterDot side) parens) = (t ≡ Dot) × IsAfterName s
Into s t (Inside mode parens) = Unit {0}
Into s t AtEnd = t ≡ End

abbrev IfInto : State → Token → Option State → Type 0
IfInto s t None = Unit {0}
IfInto s t (Some later) = Into s t later

name_into : (s : State) (mode : Mode) (d : ℕ) (w : List ℕ) (k : WordKind) → Into s (Word w) (Inside mode d)
    → IfInto s (Word w) (if_name mode d k)
name_into s mode d w AName h = h
name_into s mode d w ANot h = tt
name_into s mode d w AJoin h = tt
name_into s mode d w ATruth h = tt

operand_into : (s : State) (d : ℕ) (w : List ℕ) (k : WordKind) → IsAfterNoDot s → IfInto s (Word w) (operand_word d k)
operand_into s d w ANot no_dot = tt
operand_into s d w ATruth no_dot = tt
operand_into s d w AName no_dot = (w, refl, no_dot)
operand_into s d w AJoin no_dot = tt

join_into : (s : State) (d : ℕ) (w : List ℕ) (k : WordKind) → IfInto s (Word w) (if_join d k)
join_into s d w AJoin = tt
join_into s d w ANot = tt
join_into s d w ATruth = tt
join_into s d w AName = tt

steps_into : (s : State) (t : Token) → IfInto s t (step s t)
steps_into AtEnd t = tt
steps_into (Inside AtOperand d) (Word w) = operand_into (Inside AtOperand d) d w (word_kind w) tt
steps_into (Inside AtOperand d) (Signs Plus) = tt
steps_into (Inside AtOperand d) (Signs Minus) = tt
steps_into (Inside AtOperand d) _ = tt
steps_into (Inside AtSum d) (Word w) = name_into (Inside AtSum d) (AfterName OnRight) d w (word_kind w) (w, refl, tt)
steps_into (Inside AtSum d) (Signs Plus) = tt
steps_into (Inside AtSum d) (Signs Minus) = tt
steps_into (Inside AtSum d) _ = tt
steps_into (Inside (AtTerm side) d) (Word w) =
    name_into (Inside (AtTerm side) d) (AfterName side) d w (word_kind w) (w, refl, tt)
steps_into (Inside (AtTerm side) d) _ = tt
steps_into (Inside (AfterStar side) d) (Word w) =
    name_into (Inside (AfterStar side) d) (AfterName side) d w (word_kind w) (w, refl, tt)
steps_into (Inside (AfterStar side) d) _ = tt
steps_into (Inside (AfterName side) d) Dot = (refl, tt)
steps_into (Inside (AfterName side) d) _ = tt
steps_into (Inside (AfterDot side) d) (Word w) =
    name_into (Inside (AfterDot side) d) (AfterTerm side) d w (word_kind w) tt
steps_into (Inside (AfterDot side) d) _ = tt
steps_into (Inside (AfterNumber OnLeft) d) Star = tt
steps_into (Inside (AfterNumber OnLeft) d) _ = tt
steps_into (Inside (AfterNumber OnRight) d) (Word w) = join_into (Inside (AfterNumber OnRight) d) d w (word_kind w)
steps_into (Inside (AfterNumber OnRight) zero) End = refl
steps_into (Inside (AfterNumber OnRight) (suc d)) End = tt
steps_into (Inside (AfterNumber OnRight) zero) _ = tt
steps_into (Inside (AfterNumber OnRight) (suc d)) _ = tt
steps_into (Inside (AfterTerm OnLeft) d) (Relates c) = tt
steps_into (Inside (AfterTerm OnLeft) d) _ = tt
steps_into (Inside (AfterTerm OnRight) d) (Word w) = join_into (Inside (AfterTerm OnRight) d) d w (word_kind w)
steps_into (Inside (AfterTerm OnRight) zero) End = refl
steps_into (Inside (AfterTerm OnRight) (suc d)) End = tt
steps_into (Inside (AfterTerm OnRight) zero) _ = tt
steps_into (Inside (AfterTerm OnRight) (suc d)) _ = tt
steps_into (Inside AfterOperand d) (Word w) = join_into (Inside AfterOperand d) d w (word_kind w)
steps_into (Inside AfterOperand zero) End = refl
steps_into (Inside AfterOperand (suc d)) End = tt
steps_into (Inside AfterOperand zero) _ = tt
steps_into (Inside AfterOperand (suc d)) _ = tt

pub into : (s : State) (t : Token) (later : State) → step s t ≡ Some later → Into s t later
into s t later h = subst (IfInto s t) h (steps_into s t)

-- a dot stands after a name, and leads after the dot
abbrev pub FromDot : State → State → Type 0
FromDot s later = IsAfterName s × IsAfterDot later

abbrev IfFromDot : State → Option State → Type 0
IfFromDot s None = Unit {0}
IfFromDot s (Some later) = FromDot s later

dot_steps : (s : State) → IfFromDot s (step s Dot)
dot_steps AtEnd = tt
dot_steps (Inside (AfterName side) d) = (tt, tt)
dot_steps (Inside (AfterNumber OnLeft) d) = tt
dot_steps (Inside (AfterNumber OnRight) d) = tt
dot_steps (Inside (AfterTerm OnLeft) d) = tt
dot_steps (Inside (AfterTerm OnRight) d) = tt
dot_steps (Inside AfterOperand zero) = tt
dot_steps (Inside AfterOperand (suc d)) = tt
dot_steps (Inside _ d) = tt

pub from_dot : (s later : State) → step s Dot ≡ Some later → FromDot s later
from_dot s later h = subst (IfFromDot s) h (dot_steps s)
