-- Where births are wanted at an end, none is left out.
use Rattle.std.proofs.Common.{arith}
use Rattle.walk_runs.proofs.birth.add_births_if.Goals as goal

pub add_births-requires-clause-latest : goal.add_births-requires-clause-latest
add_births-requires-clause-latest g c = λ lt. absurd (omega arith)
