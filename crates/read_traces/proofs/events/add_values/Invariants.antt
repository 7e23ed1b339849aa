-- What the loop of `add_values` keeps.
use Rattle.std.proofs.Common.{◌≡◌, ◌++◌, take}
use Rattle.read_traces.specs.Columns.{values_in}
use Rattle.read_traces.proofs.events.add_values.Given as goal

-- the column has those of the settings so far
abbrev pub invariant-loop-setting : goal.invariant-loop-setting
invariant-loop-setting l = l.values ≡ l.initial.values ++ values_in (take l.setting-index l.new)
