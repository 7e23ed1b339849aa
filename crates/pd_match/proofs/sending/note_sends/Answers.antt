-- Notes the sends of process `p`.
use Rattle.std.proofs.Common.{◌≡◌, ◌∙◌, add-one, arith, subst, sym}
use Rattle.read_traces.specs.Views.{computation_view}
use Rattle.def_model.specs.Events.{Send, event_count}
use Rattle.pd_match.specs.Noted.{HasBefore, event_place, place_noted}
use Rattle.pd_match.proofs.Ids.{noted_process}
use Rattle.pd_match.proofs.Traces.{length_read}
use Rattle.pd_match.proofs.sending.note_sends.Goals as goal

pub loop-n-preserved : goal.loop-n-preserved
loop-n-preserved g c =
    subst (λ k. HasBefore Send (computation_view c.args.traces.now) (event_place c.args.p k)
    (place_noted c.note_send.new.sends)) (sym (add-one c.loop-n.n)) c.in_ok-note_send.ensures.noted

pub returns-clause-noted : goal.returns-clause-noted
returns-clause-noted g c =
    let all = computation_view c.args.traces.now in
    let at : c.loop-n.n ≡ event_count all c.args.p =
    let end : c.loop-n.n ≡ c.len-n-end.result = omega arith in
    length_read c.args.traces.now c.args.p c.loop-n.n c.index-traces-p.result c.requires.process c.index-traces-p.is
    (end ∙ c.len-n-end.ensures) in
    noted_process Send all c.args.p (place_noted c.loop-n.sends)
    (subst (λ k. HasBefore Send all (event_place c.args.p k) (place_noted c.loop-n.sends)) at c.loop-n.invariant)
