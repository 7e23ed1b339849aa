-- What the loop of `add_places` keeps.
use Rattle.std.proofs.Common.{◌≡◌, ◌++◌, take}
use Rattle.read_traces.specs.Columns.{places_in}
use Rattle.read_traces.proofs.events.add_places.Given as goal

-- the column has those of the settings so far
abbrev pub invariant-loop-setting : goal.invariant-loop-setting
invariant-loop-setting l = l.places.items ≡ l.initial.places.items ++ places_in (take l.setting-index l.new)
