-- What the loop of `extend` keeps.
use Rattle.std.proofs.Common.{◌≡◌, ◌++◌, take}
use Rattle.read_traces.proofs.numbers.Numbers.extend.Given as goal

-- the column has the numbers so far
abbrev pub invariant-loop-number : goal.invariant-loop-number
invariant-loop-number l = l.self ≡ l.initial.self ++ take l.number-index l.numbers
