-- What was seen of a predicate at a level.
use Rattle.std.specs.Prelude.{◌≡◌, ℕ, []}
use Rattle.walk_back.specs.CompiledTests.{events_of, meaning_of}
use Rattle.walk_back.specs.Splits.{IsSplitBelow}
use Rattle.walk_marks.specs.Marks.{IsMarking, Marking}
use Rattle.walk_runs.specs.Levels.{WholeLevel}
use Rattle.walk_tables.specs.Views.{CompiledView}
use Rattle.walk.specs.Stages.{OneStands}
use Rattle.walk.specs.declared.seen.Seen.{Seen}
use Rattle.walk.specs.declared.seen.Seen.TheVariants.{First, Next, Nothing}
use Rattle.walk.specs.declared.stage.Stage.{Stage}
use Rattle.walk.specs.declared.stage.Stage.TheVariants.{Answered, Marked, Open}
use Rattle.walk.specs.declared.task.Task.{Task}

-- These are the level's marks, and the answers have come as far as the level, if this was known before it and the
-- predicate is marked. Otherwise it stands after the level too.
abbrev pub AreNextMarks : CompiledView → ℕ → ℕ → WholeLevel → Marking → Stage → Type 0
AreNextMarks test width gap level next (Marked split marks) =
    IsSplitBelow (events_of test) (meaning_of test) width gap level.number split
    × IsMarking (events_of test) (meaning_of test) level next × (split.held.walked.items ≡ [])
AreNextMarks test width gap level next Open = OneStands test width gap level Open
AreNextMarks test width gap level next (Answered answers) = OneStands test width gap level (Answered answers)

-- This was seen of a predicate at this level, if that was known of it before: a holder is made for an open one alone.
abbrev pub IsSeen : CompiledView → ℕ → ℕ → WholeLevel → Stage → Seen → Type 0
IsSeen test width gap level stage Nothing = OneStands test width gap level stage
IsSeen test width gap level stage (First next) = (stage ≡ Open) × OneStands test width gap level next
IsSeen test width gap level stage (Next marks) = AreNextMarks test width gap level marks stage

-- the same of the predicate of a task at its level
abbrev pub IsSeenAt : {K : Type 0} → Task K → Stage → Seen → Type 0
IsSeenAt task stage seen = IsSeen task.test.now task.width task.gap task.level.now stage seen
