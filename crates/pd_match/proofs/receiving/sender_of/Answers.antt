-- The send of the event at index `n` of process `p`, if it is a receipt.
use Rattle.std.proofs.Common.{◌≡◌, ◌∙◌, ℕ, Some, ap, rules, refl, subst, suc, sym, List, bytes_eq, cond}
use Rattle.std.specs.Prelude.{IfSome}
use Rattle.def_format.specs.Versions.{version_view}
use Rattle.read_traces.specs.Views.{computation_view}
use Rattle.read_traces.specs.Columns.{seen_kind_view}
use Rattle.def_model.specs.Events.{Receive, kind_at}
use Rattle.def_model.specs.Messages.{IsReported}
use Rattle.pd_match.specs.Noted.{IsReportedOf, again, event_place, last_receiver, place_noted, sends_marked}
use Rattle.pd_match.specs.Progress.{SendsBefore}
use Rattle.pd_match.proofs.ReceivedSends.{sends_kept, sends_of_receipt}
use Rattle.pd_match.specs.Views.{match_fault_view, place_view}
use Rattle.pd_match.proofs.Marks.{received_more, received_other}
use Rattle.pd_match.proofs.Reports.{none_bad_next, other_is_good, receipt_fault, receipt_is_good, sender_is}
use Rattle.pd_match.proofs.Traces.{kind_is_not_receive}
use Rattle.pd_match.proofs.receiving.sender_of.Goals as goal

pub returns-in_err-send-in-Recv-clause-fault : goal.returns-in_err-send-in-Recv-clause-fault
returns-in_err-send-in-Recv-clause-fault g c =
    let all = computation_view c.args.traces.now in
    let here = event_place c.args.p c.args.n in
    let id = c.in-Recv.id.now in
    let v = version_view c.args.version in
    let is : kind_at all here ≡ Some (Receive id) =
    c.kind_of.ensures.kind ∙ ap (λ k. Some (seen_kind_view k)) c.in-Recv.is in
    let reported : IfSome (match_fault_view c.in_err-send-in-Recv.field-0.0) (IsReported v all) =
    receipt_fault v all here id (place_noted c.args.sends.now)
    (last_receiver c.args.sends.now c.args.received.now.items) c.requires.sent
    c.requires.before is c.requires.good (match_fault_view c.in_err-send-in-Recv.field-0.0)
    (subst (λ at. IsReportedOf (place_noted c.args.sends.now id)
    (again v (last_receiver c.args.sends.now c.args.received.now.items id) at.process) at
    (match_fault_view c.in_err-send-in-Recv.field-0.0)) c.of_event.ensures c.in_err-send-in-Recv.ensures.fault) in
    search rules

pub returns-in_ok-send-in-Recv-clause-sender : goal.returns-in_ok-send-in-Recv-clause-sender
returns-in_ok-send-in-Recv-clause-sender g c =
    let all = computation_view c.args.traces.now in
    let here = event_place c.args.p c.args.n in
    let id = c.in-Recv.id.now in
    let v = version_view c.args.version in
    let is : kind_at all here ≡ Some (Receive id) =
    c.kind_of.ensures.kind ∙ ap (λ k. Some (seen_kind_view k)) c.in-Recv.is in
    let send = place_view c.in_ok-send-in-Recv.send in
    let process : c.of_event.result.process ≡ c.args.p = ap (λ e. e.process) c.of_event.ensures in
    sender_is v all here id (place_noted c.args.sends.now)
    (last_receiver c.args.sends.now c.args.received.now.items) c.requires.sent
    c.requires.before is send c.in_ok-send-in-Recv.ensures.sender
    (λ e. c.in_ok-send-in-Recv.ensures.apart (e ∙ sym process))

pub returns-in_ok-send-in-Recv-clause-marked : goal.returns-in_ok-send-in-Recv-clause-marked
returns-in_ok-send-in-Recv-clause-marked g c =
    let all = computation_view c.args.traces.now in
    let here = event_place c.args.p c.args.n in
    let id = c.in-Recv.id.now in
    let v = version_view c.args.version in
    let is : kind_at all here ≡ Some (Receive id) =
    c.kind_of.ensures.kind ∙ ap (λ k. Some (seen_kind_view k)) c.in-Recv.is in
    let process : c.of_event.result.process ≡ c.args.p = ap (λ e. e.process) c.of_event.ensures in
    received_more all c.args.p c.args.n (last_receiver c.args.sends.now c.args.received.now.items)
    (last_receiver c.args.sends.now c.match_receipt.new.received.items) id is
    (λ other. c.in_ok-send-in-Recv.ensures.marked other
    ∙ ap (λ q. cond (bytes_eq id other) (suc q)
    (last_receiver c.args.sends.now c.args.received.now.items other)) process)
    c.requires.before

pub returns-in_ok-send-in-Recv-clause-good : goal.returns-in_ok-send-in-Recv-clause-good
returns-in_ok-send-in-Recv-clause-good g c =
    let all = computation_view c.args.traces.now in
    let here = event_place c.args.p c.args.n in
    let id = c.in-Recv.id.now in
    let v = version_view c.args.version in
    let is : kind_at all here ≡ Some (Receive id) =
    c.kind_of.ensures.kind ∙ ap (λ k. Some (seen_kind_view k)) c.in-Recv.is in
    let send = place_view c.in_ok-send-in-Recv.send in
    let process : c.of_event.result.process ≡ c.args.p = ap (λ e. e.process) c.of_event.ensures in
    none_bad_next v all c.args.p c.args.n c.requires.good
    (receipt_is_good v all here id (place_noted c.args.sends.now)
    (last_receiver c.args.sends.now c.args.received.now.items) c.requires.sent
    c.requires.before is send c.in_ok-send-in-Recv.ensures.sender
    (λ e. c.in_ok-send-in-Recv.ensures.apart (e ∙ sym process)) (ap (again v
    (last_receiver c.args.sends.now c.args.received.now.items id)) (sym process)
    ∙ c.in_ok-send-in-Recv.ensures.fresh))

pub returns-in_ok-send-in-Recv-clause-count : goal.returns-in_ok-send-in-Recv-clause-count
returns-in_ok-send-in-Recv-clause-count g c =
    let all = computation_view c.args.traces.now in
    let here = event_place c.args.p c.args.n in
    let id = c.in-Recv.id.now in
    let v = version_view c.args.version in
    let is : kind_at all here ≡ Some (Receive id) =
    c.kind_of.ensures.kind ∙ ap (λ k. Some (seen_kind_view k)) c.in-Recv.is in
    let send = place_view c.in_ok-send-in-Recv.send in
    let process : c.of_event.result.process ≡ c.args.p = ap (λ e. e.process) c.of_event.ensures in
    subst (SendsBefore all (event_place c.args.p (suc c.args.n))) (sym c.in_ok-send-in-Recv.ensures.count)
    (sends_of_receipt v all c.args.p c.args.n (sends_marked c.args.received.now.items) id send
    (last_receiver c.args.sends.now c.args.received.now.items) c.requires.counted c.requires.before c.requires.good is
    ((c.requires.sent id send).0 c.in_ok-send-in-Recv.ensures.sender)
    (sender_is v all here id (place_noted c.args.sends.now)
    (last_receiver c.args.sends.now c.args.received.now.items) c.requires.sent
    c.requires.before is send c.in_ok-send-in-Recv.ensures.sender
    (λ e. c.in_ok-send-in-Recv.ensures.apart (e ∙ sym process))))

pub returns-in_default : goal.returns-in_default
returns-in_default g c =
    let all = computation_view c.args.traces.now in
    let here = event_place c.args.p c.args.n in
    let v = version_view c.args.version in
    let is : kind_at all here ≡ Some (seen_kind_view c.kind_of.result) = c.kind_of.ensures.kind in
    let not : (id : List ℕ) → ¬ (kind_at all here ≡ Some (Receive id)) =
    λ id. kind_is_not_receive c.kind_of.result all here is id c.in_default.not-Recv in
    record {
      sender = λ send. (λ e. cc, λ m. absurd (not m.0 m.2));
      marked = received_other all c.args.p c.args.n (last_receiver c.args.sends.now c.args.received.now.items) not
          c.requires.before;
      same = refl;
      count = sends_kept all c.args.p c.args.n (sends_marked c.args.received.now.items) c.requires.counted
          (λ send m. absurd (not m.0 m.2));
      good = none_bad_next v all c.args.p c.args.n c.requires.good (other_is_good v all here not);
      fault = tt;
    }
