-- A reader of each of the streams so far.
use Rattle.std.proofs.Common.{◌≡◌, map, take}
use Rattle.def_judgement.specs.Writes.{whole_source}
use Rattle.judge_reduction.proofs.readings.readers_of.Given as goal

abbrev pub invariant-loop-bytes : goal.invariant-loop-bytes
invariant-loop-bytes l =
    map (λ reader. whole_source reader.rest.now) l.readers.items
    ≡ map (λ bytes. whole_source bytes.items) (take l.bytes-index l.streams)
