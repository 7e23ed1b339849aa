-- No mark is set at first, and then one for each message.
use Rattle.std.proofs.Common.{◌≡◌, ◌<◌, ◌∙◌, ℕ, length, refl, sym, arith}
use Rattle.std.proofs.lemmas.List.{length-map}
use Rattle.read_traces.specs.Views.{computation_view}
use Rattle.read_traces.specs.declared.event.Trace.{Trace}
use Rattle.out_picture.proofs.ReceivedFacts.{none_received, one_received}
use Rattle.out_picture.proofs.received.received_sends.Goals as goal

pub loop-message-init : goal.loop-message-init
loop-message-init c =
    let many : length (computation_view c.args.traces.now) ≡ length c.args.traces.now =
    length-map c.args.traces.now (λ (trace : Trace). trace.events) in
    none_received (computation_view c.args.traces.now) c.in_ok-rows.rows.items
    (c.in_ok-rows.ensures.one_each ∙ sym many) (λ p lt. c.in_ok-rows.ensures.unset p (omega (arith, lt, many)))

pub loop-message-preserved : goal.loop-message-preserved
loop-message-preserved c =
    one_received (computation_view c.args.traces.now) c.args.messages.now c.loop-message.message-index _ _ refl
    (omega arith) c.loop-message.rows.items c.mark.new.rows.items c.mark.ensures.here c.mark.ensures.others
    c.loop-message.invariant
