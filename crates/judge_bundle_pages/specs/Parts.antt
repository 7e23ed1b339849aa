-- The parts of a bundle, in memory.
use Rattle.std.specs.Prelude.{ℕ, List, ◌∷◌, map, Vec}
use Rattle.std.specs.Global.{Global}
use Rattle.def_judgement.specs.Writes.{Source}
use Rattle.judge_bundle_pages.specs.declared.parts.Parts.{Parts}
use Rattle.read_bundle.specs.Steps.{AreParts}

-- the bytes of each stream
abbrev pub bytes_of : List (Vec ℕ Global) → List (List ℕ)
bytes_of streams = map (λ (stream : Vec ℕ Global). stream.items) streams

-- these are the parts of all that a source with this left gave, within the limit
abbrev pub HoldsParts : (input : Source) → Parts → Type 0
HoldsParts input parts = AreParts input (parts.document.items ∷ bytes_of parts.streams.items)
