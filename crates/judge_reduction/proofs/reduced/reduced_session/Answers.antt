-- The session of the part has the answers of each run of the order.
use Rattle.std.proofs.lemmas.Option.{IfSome_then}
use Rattle.pd_spec.specs.Views.{document_view}
use Rattle.judge_reduction.specs.declared.reduced.ReducedSession.{ReducedSession}
use Rattle.judge_reduction.proofs.Reducing.{reduces}
use Rattle.judge_reduction.proofs.reduced.reduced_session.Goals as goal

pub returns : goal.returns
returns g c =
    IfSome_then c.in_ok-found.found c.in_ok-found.ensures (λ (session : ReducedSession) made.
    reduces c.one_part.ensures.possibly c.one_part.ensures.definitely (document_view c.args.spec.now)
    c.args.order.now c.in-Some.places.items c.in-Some.part session (rw c.in-Some.is at c.in_ok-places.ensures) made)
