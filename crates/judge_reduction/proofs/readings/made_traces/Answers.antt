-- What was read of whole bytes is what a session of them comes to.
use Rattle.def_format.specs.Limits.{event_limit}
use Rattle.pd_gather.specs.Views.{results_view, traces_view}
use Rattle.pd_spec.specs.Views.{document_view}
use Rattle.judge_reduction.proofs.Reading.{traces_of_sources}
use Rattle.judge_reduction.proofs.readings.made_traces.Goals as goal

pub returns-clause-joined : goal.returns-clause-joined
returns-clause-joined g c =
    let given : _ = c.in_ok-gathered.ensures.given in
    traces_of_sources (document_view c.args.made.now).names c.args.streams.now _ given.0
    c.in_ok-gathered.gathered.streams (results_view c.in_ok-gathered.gathered.readings.items)
    (traces_view c.in_ok-traces.traces.items) c.in_ok-readers.ensures given.1 given.2
    c.in_ok-traces.ensures.joined

pub returns-clause-fit : goal.returns-clause-fit
returns-clause-fit g c = c.in_ok-traces.ensures.fit event_limit c.in_ok-gathered.ensures.fit
