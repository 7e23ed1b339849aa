-- The names so far.
use Rattle.std.proofs.Common.{◌≡◌, ◌++◌, map, string_bytes, take}
use Rattle.app_parts.specs.Names.{names_of}
use Rattle.app_parts.proofs.parts.Parts.with_streams.Given as goal

abbrev pub invariant-loop-stream : goal.invariant-loop-stream
invariant-loop-stream l = map string_bytes l.arguments.items
    ≡ map string_bytes l.fn.arguments.items ++ names_of (take l.stream-index l.streams)
