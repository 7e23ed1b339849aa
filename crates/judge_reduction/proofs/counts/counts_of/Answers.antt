-- The counts of the computation are those of the traces.
use Rattle.std.proofs.lemmas.Option.{IfSome_then}
use Rattle.pd_gather.specs.Views.{traces_view}
use Rattle.pd_spec.specs.Views.{document_view}
use Rattle.judge_reduction.specs.declared.counts.Counts.{Counts}
use Rattle.judge_reduction.proofs.Reading.{have_order}
use Rattle.judge_reduction.proofs.counts.counts_of.Goals as goal

pub returns : goal.returns
returns g c =
    IfSome_then c.in_ok-found.found c.in_ok-found.ensures (λ (counts : Counts) are.
    have_order (document_view c.args.made.now) (traces_view c.args.traces.now) c.in_ok-computation.computation
    c.in_ok-computation.messages c.args.order.now counts c.in_ok-computation.ensures.formed are)
