-- What the loop of `next_event` keeps.
use Rattle.std.proofs.Common.{map, string_bytes, Option}
use Rattle.serde_json.specs.Data.{Members, no_members}
use Rattle.read_traces.specs.Columns.{seen_kind_view}
use Rattle.pd_events.specs.Plain.{AreSets, GoesOn, line_fields}
use Rattle.pd_events.proofs.plain.next_event.Given as goal

abbrev pub invariant-fields : goal.invariant-fields
invariant-fields l =
    (settings : Option Members) × AreSets (map string_bytes l.vars) settings l.has_sets l.room.sets.items
    × GoesOn 126 no_members l.initial.tokens (line_fields (seen_kind_view l.kind) settings) l.tokens
