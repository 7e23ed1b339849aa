-- The trace of a stream that has its end line, otherwise its fault.
use Rattle.std.proofs.Common.{◌≡◌, ◌⊎◌, inl, inr, refl, sym, ◌∙◌, ap}
use Rattle.def_format.specs.Readings.{IsClosed, Reading, Stop, result_of}
use Rattle.pd_events.specs.Progress.{stop_of}
use Rattle.pd_events.specs.Reads.{ReaderState}
use Rattle.pd_events.specs.declared.progress.Join.{Join}
use Rattle.pd_events.specs.declared.progress.Phase.{Phase}
use Rattle.pd_events.specs.declared.progress.Phase.TheVariants.{Fresh, Joined}
use Rattle.pd_events.proofs.ReaderSteps.{not_open}
use Rattle.pd_events.proofs.reader.TraceReader.outcome.Goals as goal

pub returns-in-Ended-clause-fits : goal.returns-in-Ended-clause-fits
returns-in-Ended-clause-fits c = λ names ending bytes s.
    let r = rw (← c.self.view_is) at s in
    c.traces_fit.ensures names ending bytes _ (ap (λ (x : Reading). result_of x) (sym r.same_reading)
    ∙ (rw c.in-Ended.is refl))

-- a stream that is closed has come to its end line or to a fault
goes_on : (phase : Phase) (stop : Stop) → stop_of phase ≡ stop → IsClosed stop
    → (phase ≡ Fresh) ⊎ ((join : Join) × (phase ≡ Joined join)) → ⊥
goes_on phase stop same closed (inl is) = not_open stop closed (sym same ∙ ap stop_of is)
goes_on phase stop same closed (inr (join, is)) = not_open stop closed (sym same ∙ ap stop_of is)

pub unreachable-requires : goal.unreachable-requires
unreachable-requires c =
    goes_on c.self.inside.progress.phase c.args.self.reading.stop
    (ap (λ (state : ReaderState). state.reading.stop) c.self.view_is) c.requires c.in-Fresh.is
