-- For each event of process `p` its send, if it is a receipt.
use Rattle.std.proofs.Common.{◌≡◌, ◌↔◌, Some, option_map, ◌∙◌, ◌+◌, add-one, arith, refl, suc, subst, sym}
use Rattle.def_format.specs.Versions.{version_view}
use Rattle.read_traces.specs.Views.{computation_view}
use Rattle.def_model.specs.Events.{event_count}
use Rattle.def_model.specs.Events as events
use Rattle.def_model.specs.Messages.{IsMessage}
use Rattle.pd_match.specs.Views.{place_view}
use Rattle.pd_match.specs.Noted.{HasReceived, NoneBadBefore, event_place, last_receiver, send_in, sends_marked}
use Rattle.pd_match.specs.Progress.{MatchedBefore, RowTells, SendsBefore}
use Rattle.pd_match.proofs.ReceivedSends.{sends_process}
use Rattle.pd_match.proofs.Marks.{received_process}
use Rattle.pd_match.proofs.Pairs.{row_first, row_next}
use Rattle.pd_match.proofs.Reports.{none_bad_process, send_numbered}
use Rattle.pd_match.proofs.Traces.{length_read}
use Rattle.pd_match.proofs.receiving.senders_in.Goals as goal

pub loop-n-init : goal.loop-n-init
loop-n-init g c = record {
  matched = c.requires.before;
  row =
      subst (λ row. RowTells (computation_view c.args.traces.now) c.args.p row 0)
      (sym c.in_ok-row.ensures.items) (row_first (computation_view c.args.traces.now) c.args.p);
  same = refl;
  count = c.requires.counted;
}

pub sender_of-requires-clause-before : goal.sender_of-requires-clause-before
sender_of-requires-clause-before g c = c.loop-n.invariant.matched.marked

pub sender_of-requires-clause-good : goal.sender_of-requires-clause-good
sender_of-requires-clause-good g c = c.loop-n.invariant.matched.good

pub of-requires : goal.of-requires
of-requires g c =
    send_numbered (computation_view c.args.traces.now) (event_place c.args.p c.loop-n.n) c.in_ok-send.send
    c.in_ok-send.ensures.sender

pub loop-n-preserved : goal.loop-n-preserved
loop-n-preserved g c =
    let all = computation_view c.args.traces.now in
    let here = event_place c.args.p c.loop-n.n in
    let sender = c.in_ok-of.field-0 in
    let send = c.in_ok-send.send in
    let is : send_in sender ≡ option_map place_view send = c.in_ok-of.ensures.kept in
    let next : suc c.loop-n.n ≡ c.loop-n.n + 1 = sym (add-one c.loop-n.n) in
    let row : RowTells all c.args.p c.push.new.self.items (suc c.loop-n.n) =
    subst (λ row. RowTells all c.args.p row (suc c.loop-n.n)) (sym c.in_ok-push.ensures.items)
    (row_next all c.args.p c.loop-n.n c.loop-n.row.items sender c.loop-n.invariant.row
    (subst (λ o. (d : events.Place) → (o ≡ Some d) ↔ IsMessage all d here) (sym is) c.in_ok-send.ensures.sender)) in
    record {
      matched = record {
        marked =
            subst (λ n. HasReceived all (event_place c.args.p n)
            (last_receiver c.args.sends.now c.sender_of.new.received.items)) next c.in_ok-send.ensures.marked;
        good =
            subst (λ n. NoneBadBefore (version_view c.args.version) all (event_place c.args.p n)) next
            c.in_ok-send.ensures.good;
      };
      row = subst (λ n. RowTells all c.args.p c.push.new.self.items n) next row;
      same = c.in_ok-send.ensures.same ∙ c.loop-n.invariant.same;
      count = subst (λ n. SendsBefore all (event_place c.args.p n)
          (sends_marked c.sender_of.new.received.items)) next c.in_ok-send.ensures.count;
    }

pub returns-clause-after : goal.returns-clause-after
returns-clause-after g c =
    let all = computation_view c.args.traces.now in
    let at : c.loop-n.n ≡ event_count all c.args.p =
    let end : c.loop-n.n ≡ c.len-n-end.result = omega arith in
    length_read c.args.traces.now c.args.p c.loop-n.n c.index-traces-p-2.result c.requires.process c.index-traces-p-2.is
    (end ∙ c.len-n-end.ensures) in
    let v = version_view c.args.version in
    let marked = last_receiver c.args.sends.now c.loop-n.received.items in
    let so_far : MatchedBefore v all (event_place c.args.p (event_count all c.args.p)) marked =
    subst (λ k. MatchedBefore v all (event_place c.args.p k) marked) at c.loop-n.invariant.matched in
    record {
      marked = received_process all c.args.p marked so_far.marked;
      good = none_bad_process v all c.args.p so_far.good;
    }

pub returns-clause-row : goal.returns-clause-row
returns-clause-row g c =
    let all = computation_view c.args.traces.now in
    let at : c.loop-n.n ≡ event_count all c.args.p =
    let end : c.loop-n.n ≡ c.len-n-end.result = omega arith in
    length_read c.args.traces.now c.args.p c.loop-n.n c.index-traces-p-2.result c.requires.process c.index-traces-p-2.is
    (end ∙ c.len-n-end.ensures) in
    subst (λ k. RowTells all c.args.p c.loop-n.row.items k) at c.loop-n.invariant.row

pub returns-clause-count : goal.returns-clause-count
returns-clause-count g c =
    let all = computation_view c.args.traces.now in
    let at : c.loop-n.n ≡ event_count all c.args.p =
    let end : c.loop-n.n ≡ c.len-n-end.result = omega arith in
    length_read c.args.traces.now c.args.p c.loop-n.n c.index-traces-p-2.result c.requires.process c.index-traces-p-2.is
    (end ∙ c.len-n-end.ensures) in
    let marked = sends_marked c.loop-n.received.items in
    sends_process all c.args.p marked
    (subst (λ k. SendsBefore all (event_place c.args.p k) marked) at c.loop-n.invariant.count)

pub sender_of-requires-clause-counted : goal.sender_of-requires-clause-counted
sender_of-requires-clause-counted g c = c.loop-n.invariant.count
