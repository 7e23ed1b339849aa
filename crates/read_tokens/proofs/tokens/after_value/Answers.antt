-- The tokens after a value, if a comma comes first.
use Rattle.read_tokens.proofs.Steps.{comma_passed}
use Rattle.read_tokens.proofs.tokens.after_value.Goals as goal

pub returns-in-Some : goal.returns-in-Some
returns-in-Some c = comma_passed c.args.rest.now c.in-Some.rest.now c.in-Some.ensures
