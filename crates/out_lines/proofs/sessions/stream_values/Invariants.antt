-- What the loop keeps: the values of the texts so far.
use Rattle.std.proofs.Common.{◌≡◌, map, take, string_bytes}
use Rattle.serde_json.specs.Data.{string}
use Rattle.serde_json.specs.View.{view}
use Rattle.out_lines.proofs.sessions.stream_values.Given as goal

abbrev pub invariant-loop-stream : goal.invariant-loop-stream
invariant-loop-stream l =
    map view l.values.items ≡ map (λ stream. string stream) (map string_bytes (take l.stream-index l.streams))
