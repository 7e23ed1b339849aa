-- The kind of the event at index `n` of process `p`.
use Rattle.std.proofs.Common.{◌<◌, List, length, ap, subst, ◌∙◌}
use Rattle.def_model.specs.Events as events
use Rattle.read_traces.specs.Columns.{seen_kind_view}
use Rattle.read_traces.specs.declared.event.Trace.{Trace}
use Rattle.pd_match.proofs.Traces.{events_read, kind_here}
use Rattle.pd_match.proofs.kinds.kind_of.Goals as goal

pub kind-requires : goal.kind-requires
kind-requires c =
    subst (λ (xs : List events.Event). c.args.n < length xs)
    (events_read c.args.traces.now c.args.p c.index-traces-p.result c.requires.process c.index-traces-p.is
    ∙ ap (λ (t : Trace). t.events) c.index-traces-p.is) c.requires.event

pub returns-clause-kind : goal.returns-clause-kind
returns-clause-kind c =
    kind_here c.args.traces.now c.args.p c.args.n c.index-traces-p.result (seen_kind_view c.kind.result)
    c.requires.process c.index-traces-p.is c.kind.ensures.kind
