-- Matches the receipts with the sends.
use Rattle.std.proofs.Common.{◌≡◌, ◌∙◌, ◌+◌, [], add-one, ap, arith, length, replicate, rules, suc, subst, sym, ℕ, List}
use Rattle.std.proofs.lemmas.List.{length-map, length-replicate}
use Rattle.indexmap.specs.IndexMap.{index_map_len}
use Rattle.read_traces.specs.declared.event.Trace.{Trace}
use Rattle.def_format.specs.Versions.{version_view}
use Rattle.read_traces.specs.Views.{computation_view}
use Rattle.def_model.specs.Messages.{IsMessageList}
use Rattle.pd_match.specs.Noted.{CountsSends, event_place, last_receiver, pairs_in, place_noted, sends_marked}
use Rattle.pd_match.specs.Progress.{MatchedBefore, RowsTell, SendsBefore}
use Rattle.pd_match.proofs.ReceivedSends.{sends_all, sends_first}
use Rattle.pd_match.proofs.Marks.{no_sends_marked, none_marked, received_first}
use Rattle.pd_match.proofs.Pairs.{pairs_all, rows_first, rows_next, table_agrees}
use Rattle.pd_match.proofs.Reports.{lawful, none_bad_first}
use Rattle.pd_match.proofs.matching.match_receipts.Goals as goal

pub loop-p-init : goal.loop-p-init
loop-p-init g c =
    let all = computation_view c.args.traces.now in
    let many = index_map_len c.args.sends.now in
    let marks : replicate many 0 ≡ c.in_ok-received.received.items = search rules in
    let none : [] ≡ c.in_ok-senders.senders.items = sym c.in_ok-senders.ensures.items in record {
      matched = record {
        marked = received_first all (last_receiver c.args.sends.now c.in_ok-received.received.items)
            (subst (λ marks. (id : List ℕ) → last_receiver c.args.sends.now marks id ≡ 0) marks
            (none_marked c.args.sends.now many));
        good = none_bad_first (version_view c.args.version) all;
      };
      rows = subst (λ rows. RowsTell all rows 0) none (rows_first all);
      same = ap length (sym marks) ∙ length-replicate many 0;
      count = subst (SendsBefore all (event_place 0 0)) (sym (ap sends_marked (sym marks) ∙ no_sends_marked many))
          (sends_first all);
    }

pub senders_in-requires-clause-before : goal.senders_in-requires-clause-before
senders_in-requires-clause-before g c = c.loop-p.invariant.matched

pub loop-p-preserved : goal.loop-p-preserved
loop-p-preserved g c =
    let all = computation_view c.args.traces.now in
    let row = c.in_ok-senders_in.field-0 in
    let rows : RowsTell all c.push.new.self.items (suc c.loop-p.p) =
    subst (λ rows. RowsTell all rows (suc c.loop-p.p)) (sym c.in_ok-push.ensures.items)
    (rows_next all c.loop-p.p c.loop-p.senders.items row c.loop-p.invariant.rows c.in_ok-senders_in.ensures.row) in
    let next : suc c.loop-p.p ≡ c.loop-p.p + 1 = sym (add-one c.loop-p.p) in
    record {
      matched =
          subst (λ p. MatchedBefore (version_view c.args.version) all (event_place p 0)
          (last_receiver c.args.sends.now c.senders_in.new.received.items)) next c.in_ok-senders_in.ensures.after;
      rows = subst (λ p. RowsTell all c.push.new.self.items p) next rows;
      same = c.in_ok-senders_in.ensures.same ∙ c.loop-p.invariant.same;
      count = subst (λ p. SendsBefore all (event_place p 0)
          (sends_marked c.senders_in.new.received.items)) next c.in_ok-senders_in.ensures.count;
    }

-- all processes are done
processes : (traces : List Trace) (p : ℕ) → p ≡ length traces → p ≡ length (computation_view traces)
processes traces p end =
    end ∙ sym (length-map traces (λ (process : Trace). process.events))

pub new-requires-clause-found : goal.new-requires-clause-found
new-requires-clause-found g c =
    let all = computation_view c.args.traces.now in
    let at : c.loop-p.p ≡ length all = processes c.args.traces.now c.loop-p.p (omega arith) in
    let whole : RowsTell all c.loop-p.senders.items (length all) =
    subst (λ k. RowsTell all c.loop-p.senders.items k) at c.loop-p.invariant.rows in
    table_agrees all c.loop-p.senders.items whole (pairs_in 0 c.loop-p.senders.items)
    (pairs_all all (pairs_in 0 c.loop-p.senders.items) whole.pairs)

pub new-requires-clause-count : goal.new-requires-clause-count
new-requires-clause-count g c =
    let all = computation_view c.args.traces.now in
    let at : c.loop-p.p ≡ length all = processes c.args.traces.now c.loop-p.p (omega arith) in
    let whole : RowsTell all c.loop-p.senders.items (length all) =
    subst (λ k. RowsTell all c.loop-p.senders.items k) at c.loop-p.invariant.rows in
    let marked = sends_marked c.loop-p.received.items in
    let so_far : SendsBefore all (event_place (length all) 0) marked =
    subst (λ k. SendsBefore all (event_place k 0) marked) at c.loop-p.invariant.count in
    subst (CountsSends (pairs_in 0 c.loop-p.senders.items))
    (sym (c.count_of.ensures ∙ ap sends_marked c.deref.ensures.value))
    (sends_all all marked (pairs_in 0 c.loop-p.senders.items) so_far
    (pairs_all all (pairs_in 0 c.loop-p.senders.items) whole.pairs))

pub senders_in-requires-clause-counted : goal.senders_in-requires-clause-counted
senders_in-requires-clause-counted g c = c.loop-p.invariant.count

pub returns-clause-lawful : goal.returns-clause-lawful
returns-clause-lawful g c =
    let all = computation_view c.args.traces.now in
    let at : c.loop-p.p ≡ length all = processes c.args.traces.now c.loop-p.p (omega arith) in
    let v = version_view c.args.version in
    let matched : MatchedBefore v all (event_place (length all) 0)
    (last_receiver c.args.sends.now c.loop-p.received.items) =
    subst (λ k. MatchedBefore v all (event_place k 0) (last_receiver c.args.sends.now c.loop-p.received.items)) at
    c.loop-p.invariant.matched in
    lawful v all (place_noted c.args.sends.now) c.requires matched.good

pub returns-clause-messages : goal.returns-clause-messages
returns-clause-messages g c =
    let all = computation_view c.args.traces.now in
    let at : c.loop-p.p ≡ length all = processes c.args.traces.now c.loop-p.p (omega arith) in
    let whole : RowsTell all c.loop-p.senders.items (length all) =
    subst (λ k. RowsTell all c.loop-p.senders.items k) at c.loop-p.invariant.rows in
    subst (IsMessageList all) (sym c.new.ensures) (pairs_all all (pairs_in 0 c.loop-p.senders.items) whole.pairs)
