-- What is found by the computation of the traces is found of the streams.
use Rattle.std.proofs.Common.{List, subst, sym}
use Rattle.read_traces.specs.declared.event.Trace.{Trace}
use Rattle.pd_gather.specs.Views.{results_view, traces_view}
use Rattle.def_format.specs.Limits.{event_limit}
use Rattle.pd_spec.specs.Views.{document_view}
use Rattle.judge_session.specs.Computations.{AreWellFormed}
use Rattle.judge_shared.specs.declared.found.Found.{Found}
use Rattle.judge_shared.specs.Sharing.{IsFound}
use Rattle.judge_shared.proofs.reports.found_of.Goals as goal
use Rattle.judge_shared.proofs.reports.found_of.Goals.{then-beyond_width+in_ok-found, else-beyond_width+in_ok-found-2}

pub returns-clause-found : goal.returns-clause-found
returns-clause-found g c =
    λ options is_document sound. elim c.if-beyond_width.branch [
      | then-beyond_width+in_ok-found w ↦
          subst (λ (found : Found). IsFound options c.args.document.now (document_view c.args.spec.now)
          c.args.gathered.streams (results_view c.args.gathered.readings.items) found) (sym w.found-is)
          (w.in_ok-found.ensures options (traces_view c.in_ok-traces.traces.items) c.args.gathered.streams
          (results_view c.args.gathered.readings.items) is_document c.in_ok-traces.ensures.joined well sound)
      | else-beyond_width+in_ok-found-2 w ↦
          subst (λ (found : Found). IsFound options c.args.document.now (document_view c.args.spec.now)
          c.args.gathered.streams (results_view c.args.gathered.readings.items) found) (sym w.found-is)
          (w.in_ok-found-2.ensures options c.args.document.now (traces_view c.in_ok-traces.traces.items)
          c.args.gathered.streams (results_view c.args.gathered.readings.items) c.in_ok-traces.ensures.joined well)
    ]
  where
    well : AreWellFormed (document_view c.args.spec.now) (traces_view c.in_ok-traces.traces.items)
        c.in_ok-computation.computation c.in_ok-computation.messages
    well =
        subst (λ (traces : List Trace). AreWellFormed (document_view c.args.spec.now) (traces_view traces)
        c.in_ok-computation.computation c.in_ok-computation.messages) c.deref.ensures.value
        c.in_ok-computation.ensures.formed

pub computation_of-requires : goal.computation_of-requires
computation_of-requires g c = rw c.deref.ensures.value (c.in_ok-traces.ensures.fit event_limit c.requires.fits)
