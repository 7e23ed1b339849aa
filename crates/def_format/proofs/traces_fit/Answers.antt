-- Each trace that a stream gives fits the session's names.
use Rattle.def_format.proofs.TraceFits.{traces_fit_lem}
use Rattle.def_format.proofs.traces_fit.Goals as goal

pub returns : goal.returns
returns c = traces_fit_lem
