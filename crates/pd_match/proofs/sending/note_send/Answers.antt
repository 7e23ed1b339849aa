-- Notes the event at index `n` of process `p`, if it is a send.
use Rattle.std.proofs.Common.{◌≡◌, ◌∙◌, ap, sym, subst, Some}
use Rattle.read_traces.specs.Views.{computation_view}
use Rattle.read_traces.specs.Columns.{seen_kind_view}
use Rattle.def_model.specs.Events.{Send, kind_at}
use Rattle.def_model.specs.Messages.{SendTwice, IsReported}
use Rattle.pd_match.specs.Noted.{event_place, place_noted}
use Rattle.pd_match.proofs.Ids.{noted_more, noted_other}
use Rattle.pd_match.proofs.Reports.{none_from_test, same_send, sent_twice}
use Rattle.pd_match.proofs.Traces.{kind_is_not_send}
use Rattle.pd_match.proofs.sending.note_send.Goals as goal

pub returns-then-branch-clause-fault : goal.returns-then-branch-clause-fault
returns-then-branch-clause-fault g c =
    let all = computation_view c.args.traces.now in
    let id = c.in-Send.id.now in
    let is : kind_at all (event_place c.args.p c.args.n) ≡ Some (Send id) =
    c.kind_of.ensures.kind ∙ ap (λ k. Some (seen_kind_view k)) c.in-Send.is in
    λ version. subst (λ f. IsReported version all (SendTwice f)) (sym c.of_event-here.ensures)
    (sent_twice all (event_place c.args.p c.args.n) (place_noted c.args.sends.now) id c.requires.before is
    (sym c.in_ok-note.ensures.before ∙ c.if-branch.true) version)

pub returns-else-branch-clause-noted : goal.returns-else-branch-clause-noted
returns-else-branch-clause-noted g c =
    let all = computation_view c.args.traces.now in
    let id = c.in-Send.id.now in
    let is : kind_at all (event_place c.args.p c.args.n) ≡ Some (Send id) =
    c.kind_of.ensures.kind ∙ ap (λ k. Some (seen_kind_view k)) c.in-Send.is in
    noted_more Send all c.args.p c.args.n (place_noted c.args.sends.now) (place_noted c.note.new.places) id same_send is
    (none_from_test (place_noted c.args.sends.now id) (sym c.in_ok-note.ensures.before ∙ c.if-branch.false))
    (λ other. rw (sym c.of_event-here.ensures) (c.in_ok-note.ensures.noted other)) c.requires.before

pub returns-in_default : goal.returns-in_default
returns-in_default g c =
    let all = computation_view c.args.traces.now in
    let is : kind_at all (event_place c.args.p c.args.n) ≡ Some (seen_kind_view c.kind_of.result) =
    c.kind_of.ensures.kind in
    record {
      noted = noted_other Send all c.args.p c.args.n (place_noted c.args.sends.now)
          (λ id. kind_is_not_send c.kind_of.result all (event_place c.args.p c.args.n) is id
          c.in_default.not-Send) c.requires.before;
      fault = tt;
    }
