-- None of the parts so far has the name.
use Rattle.std.proofs.Common.{◌≡◌, drop}
use Rattle.app_parts.specs.Names.{bytes_called}
use Rattle.app_parts.proofs.parts.Parts.bytes_of.Given as goal

abbrev pub invariant-loop-part : goal.invariant-loop-part
invariant-loop-part l =
    bytes_called l.name l.self.parts.items ≡ bytes_called l.name (drop l.part-index l.self.parts.items)
