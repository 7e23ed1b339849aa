-- The place of each send, by its id.
use Rattle.std.proofs.Common.{◌≡◌, ◌∙◌, add-one, arith, length, subst, sym}
use Rattle.std.proofs.lemmas.List.{length-map}
use Rattle.read_traces.specs.declared.event.Trace.{Trace}
use Rattle.read_traces.specs.Views.{computation_view}
use Rattle.def_model.specs.Events.{Send}
use Rattle.pd_match.specs.Noted.{HasBefore, event_place, place_noted}
use Rattle.pd_match.proofs.Ids.{none_noted, noted_all, noted_first}
use Rattle.pd_match.proofs.sending.sends_of.Goals as goal

pub loop-p-init : goal.loop-p-init
loop-p-init g c =
    noted_first Send (computation_view c.args.traces.now) (place_noted c.with_hasher-sends.result)
    (none_noted c.with_hasher-sends.result c.with_hasher-sends.ensures.empty)

pub loop-p-preserved : goal.loop-p-preserved
loop-p-preserved g c =
    subst (λ k. HasBefore Send (computation_view c.args.traces.now) (event_place k 0)
    (place_noted c.note_sends.new.sends)) (sym (add-one c.loop-p.p)) c.in_ok-note_sends.ensures.noted

pub returns-clause-noted : goal.returns-clause-noted
returns-clause-noted g c =
    let all = computation_view c.args.traces.now in
    let end : c.loop-p.p ≡ length c.args.traces.now = omega arith in
    let same : length all ≡ length c.args.traces.now =
    length-map c.args.traces.now (λ (process : Trace). process.events) in
    noted_all Send all (place_noted c.loop-p.sends)
    (subst (λ k. HasBefore Send all (event_place k 0) (place_noted c.loop-p.sends)) (end ∙ sym same)
    c.loop-p.invariant)
