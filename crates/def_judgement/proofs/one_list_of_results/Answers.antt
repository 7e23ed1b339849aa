-- Streams have at most one list of results.
use Rattle.def_judgement.proofs.StreamResults.{one_list_of_results_lem}
use Rattle.def_judgement.proofs.one_list_of_results.Goals as goal

pub returns : goal.returns
returns c = one_list_of_results_lem
