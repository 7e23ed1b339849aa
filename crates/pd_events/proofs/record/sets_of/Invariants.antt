-- What the loops of `sets_of` keep.
use Rattle.std.proofs.Common.{◌≡◌, ◌++◌, map, drop, string_bytes}
use Rattle.serde_json.specs.View.{members_view}
use Rattle.def_format.specs.Records.{sets_from}
use Rattle.pd_events.proofs.record.sets_of.Given as goal

-- the sets so far, and then those of the variables that are left
abbrev pub invariant-loop-number : goal.invariant-loop-number
invariant-loop-number l =
    l.sets.items ++ sets_from l.number (map string_bytes (drop l.number l.vars)) (members_view l.settings.entries)
    ≡ sets_from 0 (map string_bytes l.vars) (members_view l.settings.entries)
