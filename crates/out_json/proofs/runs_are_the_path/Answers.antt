-- The laws.
use Rattle.out_json.proofs.PathRuns.{runs_are_longest, runs_give_path}
use Rattle.out_json.proofs.runs_are_the_path.Goals as goal

pub returns-clause-events : goal.returns-clause-events
returns-clause-events c = runs_give_path

pub returns-clause-longest : goal.returns-clause-longest
returns-clause-longest c = runs_are_longest
