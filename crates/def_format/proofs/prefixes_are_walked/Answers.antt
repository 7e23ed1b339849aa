-- A walk finds which tokens begin a predicate's, and goes on from where it was.
use Rattle.def_format.proofs.Prefixes.{walk-append}
use Rattle.def_format.proofs.Completions.{begins_is_exact}
use Rattle.def_format.proofs.prefixes_are_walked.Goals as goal

pub returns-clause-exact : goal.returns-clause-exact
returns-clause-exact c = begins_is_exact

pub returns-clause-go_on : goal.returns-clause-go_on
returns-clause-go_on c = walk-append
