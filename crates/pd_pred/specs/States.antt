-- The states of a walk over tokens that the program's states stand for.
use Rattle.std.specs.Prelude.{ℕ}
use Rattle.def_format.specs.PrefixWalk as walk
use Rattle.pd_pred.specs.declared.state.WordKind.{WordKind}
use Rattle.pd_pred.specs.declared.state.WordKind.TheVariants.{Negates, Joins, Truth, Name}
use Rattle.pd_pred.specs.declared.state.Side.{Side}
use Rattle.pd_pred.specs.declared.state.Side.TheVariants.{Left, Right}
use Rattle.pd_pred.specs.declared.state.Mode.{Mode}
use Rattle.pd_pred.specs.declared.state.Mode.TheVariants.{AtOperand, AtSum, AtTerm, AfterNumber, AfterStar, AfterName, AfterDot, AfterTerm, AfterOperand}
use Rattle.pd_pred.specs.declared.state.State.{State}
use Rattle.pd_pred.specs.declared.state.State.TheVariants.{Inside, AtEnd}

abbrev pub word_kind_view : WordKind → walk.WordKind
word_kind_view Negates = walk.ANot
word_kind_view Joins = walk.AJoin
word_kind_view Truth = walk.ATruth
word_kind_view Name = walk.AName

abbrev pub side_view : Side → walk.Side
side_view Left = walk.OnLeft
side_view Right = walk.OnRight

abbrev pub mode_view : Mode → walk.Mode
mode_view AtOperand = walk.AtOperand
mode_view AtSum = walk.AtSum
mode_view (AtTerm side) = walk.AtTerm (side_view side)
mode_view (AfterNumber side) = walk.AfterNumber (side_view side)
mode_view (AfterStar side) = walk.AfterStar (side_view side)
mode_view (AfterName side) = walk.AfterName (side_view side)
mode_view (AfterDot side) = walk.AfterDot (side_view side)
mode_view (AfterTerm side) = walk.AfterTerm (side_view side)
mode_view AfterOperand = walk.AfterOperand

abbrev pub parser_state_view : State → walk.State
parser_state_view (Inside mode parens) = walk.Inside (mode_view mode) parens
parser_state_view AtEnd = walk.AtEnd

-- how many parentheses are open in a state
abbrev pub open_parens : walk.State → ℕ
open_parens (walk.Inside mode parens) = parens
open_parens walk.AtEnd = 0
