-- The traces fit as the streams' do.
use Rattle.pd_gather.proofs.traces.session_within.Goals as goal

pub returns-clause-fits : goal.returns-clause-fits
returns-clause-fits c = rw c.names-2.ensures at c.in_ok-in_order.ensures.fits
