-- What the streams give depends on the bytes and the ending of each, and on no order in which their inputs come.
use Rattle.pd_gather.proofs.Outcomes as outcomes
use Rattle.pd_gather.proofs.streams.order_doesnt_matter.Goals as goal

pub returns : goal.returns
returns c = outcomes.order_doesnt_matter c.one_list_of_results.ensures
