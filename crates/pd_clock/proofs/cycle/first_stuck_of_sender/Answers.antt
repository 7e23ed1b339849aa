-- The first stuck event of a process is a receipt, and its message was sent by a process that has a stuck event.
use Rattle.std.proofs.Common.{◌≡◌, ℕ, ◌<◌, ◌↔◌, List, length, sym, ap, ◌∙◌, subst, arith, rules}
use Rattle.std.specs.Prelude.{Option, Some, None, IsSome, IfNone, option_map, Contains}
use Rattle.std.proofs.lemmas.List.{length-map}
use Rattle.std.proofs.lemmas.Option.{same_Some}
use Rattle.def_model.specs.Events as events
use Rattle.def_model.specs.Events.{Computation, place}
use Rattle.def_model.specs.Messages.{IsMessage, IsMessageList}
use Rattle.def_model.specs.Order.{IsStuck, IsFirstStuck}
use Rattle.def_model.proofs.Stuck.{stuck_receipt}
use Rattle.def_model.proofs.Consistency.{process_in_range}
use Rattle.read_traces.specs.declared.event.Trace.{Trace}
use Rattle.read_traces.specs.Views.{computation_view}
use Rattle.pd_match.specs.Views.{place_view}
use Rattle.pd_match.specs.declared.place.Place.{Place}
use Rattle.def_model.proofs.StuckWay.{stuck_event}
use Rattle.pd_clock.proofs.cycle.first_stuck_of_sender.Goals as goal

-- the send of this receipt is reported, and is stuck
sent : (c : Computation) (pairs : List (events.Place × events.Place)) (receipt : events.Place) (reported : Option Place)
    → IsMessageList c pairs → IsFirstStuck c receipt
    → ((send : events.Place) → Contains pairs (send, receipt) ↔ (option_map place_view reported ≡ Some send))
    → (send : events.Place) × IsMessage c send receipt × IsStuck c send × (option_map place_view reported ≡ Some send)
sent c pairs receipt reported list first tells =
    let w : (send : events.Place) × IsMessage c send receipt × IsStuck c send = stuck_receipt c receipt first in
    (w.0, w.1, w.2, (tells w.0).0 ((list.just w.0 receipt).1 w.1))

some_reported : (reported : Option Place) (send : events.Place) → option_map place_view reported ≡ Some send
    → IsSome reported
some_reported None send e = absurd (cc)
some_reported (Some place) send e = search rules

-- the place that is reported is that of the send
send_reported : (c : Computation) (pairs : List (events.Place × events.Place)) (receipt : events.Place)
    (reported : Option Place) (place : Place) → reported ≡ Some place → IsMessageList c pairs → IsFirstStuck c receipt
    → ((send : events.Place) → Contains pairs (send, receipt) ↔ (option_map place_view reported ≡ Some send))
    → IsMessage c (place_view place) receipt × IsStuck c (place_view place)
send_reported c pairs receipt reported place is list first tells =
    let w : (send : events.Place) × IsMessage c send receipt × IsStuck c send
    × (option_map place_view reported ≡ Some send) = sent c pairs receipt reported list first tells in
    let same : w.0 ≡ place_view place = same_Some w.0 (place_view place) (sym w.3 ∙ ap (option_map place_view) is) in
    (subst (λ (send : events.Place). IsMessage c send receipt) same w.1, subst (IsStuck c) same w.2)

some_left : (first : Option Place) (P : Type 0) → IfNone first P → ¬ P → IsSome first
some_left None P none not_so = absurd (not_so none)
some_left (Some place) P none not_so = search rules

pub unwrap-send-requires : goal.unwrap-send-requires
unwrap-send-requires c =
    let w = sent (computation_view c.args.traces.now) c.args.matched.now (place_view c.args.receipt) c.sender.result
    c.requires.messages c.requires.receipt c.sender.ensures in
    some_reported c.sender.result w.0 w.3

pub first_stuck-requires-clause-within : goal.first_stuck-requires-clause-within
first_stuck-requires-clause-within c =
    let w = send_reported (computation_view c.args.traces.now) c.args.matched.now (place_view c.args.receipt)
    c.sender.result c.unwrap-send.result c.unwrap-send.ensures c.requires.messages c.requires.receipt
    c.sender.ensures in
    let within : c.unwrap-send.result.process < length (computation_view c.args.traces.now) =
    process_in_range (computation_view c.args.traces.now) (place_view c.unwrap-send.result)
    (stuck_event (computation_view c.args.traces.now) (place_view c.unwrap-send.result) w.1) in
    let count : length (computation_view c.args.traces.now) ≡ length c.args.traces.now =
    length-map c.args.traces.now (λ (process : Trace). process.events) in
    omega arith

pub unwrap-requires : goal.unwrap-requires
unwrap-requires c =
    let w = send_reported (computation_view c.args.traces.now) c.args.matched.now (place_view c.args.receipt)
    c.sender.result c.unwrap-send.result c.unwrap-send.ensures c.requires.messages c.requires.receipt
    c.sender.ensures in
    some_left c.first_stuck.result ((n : ℕ)
    → ¬ IsStuck (computation_view c.args.traces.now) (place c.unwrap-send.result.process n))
    c.first_stuck.ensures.none (λ none. none c.unwrap-send.result.number w.1)

pub returns : goal.returns
returns c =
    let w = send_reported (computation_view c.args.traces.now) c.args.matched.now (place_view c.args.receipt)
    c.sender.result c.unwrap-send.result c.unwrap-send.ensures c.requires.messages c.requires.receipt
    c.sender.ensures in (
      rw c.unwrap.ensures at c.first_stuck.ensures.some,
      (place_view c.unwrap-send.result, w.0, sym (rw c.unwrap.ensures at c.first_stuck.ensures.process)),
    )
