-- What the loop of `add_steps` keeps.
use Rattle.wide_slice.specs.Values.{number_at}
use Rattle.wide_slice.proofs.Parts.{IsAddedUpTo}
use Rattle.wide_slice.proofs.kept.add_steps.Given as goal

abbrev pub invariant-loop-k : goal.invariant-loop-k
invariant-loop-k l =
    IsAddedUpTo l.points l.asked (number_at l.numbers) l.process l.least l.k l.initial.steps.items l.steps.items l.high
