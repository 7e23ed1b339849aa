-- What the loops of `plain_bytes` keep.
use Rattle.std.proofs.Common.{◌≤◌, ◌-◌, All, length, take}
use Rattle.read_tokens.specs.Runs.{IsPlain}
use Rattle.read_tokens.proofs.bytes.plain_bytes.Given as goal

abbrev pub invariant-words : goal.invariant-words
invariant-words l = (l.count ≤ length l.bytes) × All IsPlain (take l.count l.bytes)

abbrev pub decreases-words : goal.decreases-words
decreases-words l = length l.bytes - l.count

abbrev pub invariant-bytes : goal.invariant-bytes
invariant-bytes l = (l.count ≤ length l.bytes) × All IsPlain (take l.count l.bytes)

abbrev pub decreases-bytes : goal.decreases-bytes
decreases-bytes l = length l.bytes - l.count
