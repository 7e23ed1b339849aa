-- What the loop of `after_spaces` keeps.
use Rattle.std.proofs.Common.{◌≡◌, length}
use Rattle.json.specs.Lex.{between, lex}
use Rattle.read_tokens.proofs.bytes.after_spaces.Given as goal

abbrev pub invariant-spaces : goal.invariant-spaces
invariant-spaces l = lex between l.rest ≡ lex between l.initial.bytes

abbrev pub decreases-spaces : goal.decreases-spaces
decreases-spaces l = length l.rest
