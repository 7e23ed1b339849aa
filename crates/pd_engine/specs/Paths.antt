-- An observation whose processes have names.
use Rattle.std.specs.Prelude.{ℕ, ◌<◌, All}
use Rattle.walk_back.specs.declared.definitely_answer.DefinitelyAnswer.{DefinitelyAnswer}
use Rattle.walk_back.specs.declared.definitely_answer.DefinitelyAnswer.TheVariants.{Yes, No, Unknown}

-- each process of the observation is one of this many
abbrev pub HasProcessesBelow : ℕ → DefinitelyAnswer → Type 0
HasProcessesBelow processes (Yes level) = Unit {0}
HasProcessesBelow processes (No path) = All (λ p. p < processes) path.items
HasProcessesBelow processes (Unknown level) = Unit {0}
