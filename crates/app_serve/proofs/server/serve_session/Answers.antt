-- The streams are as many as the document has processes, and each was accepted at the place.
use Rattle.std.proofs.Common.{rules, ◌≡◌, ◌∙◌, List, ap, length, map, subst, sym}
use Rattle.std.proofs.lemmas.List.{length-map}
use Rattle.std.proofs.lemmas.List.Elements.{All-map}
use Rattle.def_format.specs.Names.{ProcessNames}
use Rattle.app_arguments.specs.Views.{format_view, place_view, text_view}
use Rattle.app_arguments.specs.Statuses.{Ending, OfConnections, ServiceMayFail}
use Rattle.def_judgement.specs.Writes.{Source}
use Rattle.judge_session.specs.Inquiries.{inquiry_view}
use Rattle.app_serve.specs.Kept.{AsksForFiles}
use Rattle.app_serve.proofs.Accepted.{accepted_of_read, service_of_judgement}
use Rattle.app_serve.proofs.Unfiled.{unfiled, unfiled_fault, unkept}
use Rattle.app_host.specs.Faults.{judgement_ending}
use Rattle.app_host.specs.FileSources.{ReadLeaves}
use Rattle.app_serve.specs.Served.{IsServed}
use Rattle.app_serve.specs.declared.service_notices.ServiceNotices.{ServiceNotices}
use Rattle.app_serve.specs.declared.recording_source.RecordingSource.{RecordingSource}
use Rattle.pd_spec.specs.Views.{document_view}
use Rattle.app_serve.proofs.server.serve_session.Goals as goal

pub returns-clause-written : goal.returns-clause-written
returns-clause-written g c fail_on =
    let service = c.args.host.now.service.now in
    let place = place_view service.place in
    let format = format_view service.format in
    let G = g.N.Network.may_give c.args.host.now.network.now place in
    let left : RecordingSource g.row.N-Connection.Denot g.row.F-Sink.Denot
    (ServiceNotices g.row.F.Denot g.row.N.Denot) → Source =
    λ stream. g.N.Connection.ByteSource.left stream.source.source in
    let streams = c.in_ok-streams.streams.items in
    let document = inquiry_view c.args.inquiry in
    let MayNotServe = ServiceMayFail service.wait g.N.Network.never_fails in
    let IsKept = AsksForFiles service in
    let count : length (map left streams) ≡ length (document_view c.args.spec.now).names =
    length-map streams left ∙ (c.in_ok-streams.ensures.count ∙ (c.processes-count.ensures
    ∙ ap (λ (names : List ProcessNames). length names) c.names.ensures)) in
    let given = All-map G left streams (c.in_ok-streams.ensures.given place c.in_ok-listener.ensures.on) in
    let are = accepted_of_read document G (map left streams) (document_view c.args.spec.now)
    c.one_document.ensures.single c.one_document.ensures.not_refused c.requires.document given count in
    subst (λ (e : Ending). ReadLeaves (OfConnections (IsServed format) G MayNotServe IsKept fail_on document) e
    (g.O.Write.contents c.args.output.now) (g.O.Write.contents c.judge_accepted.new.output))
    (sym (c.service_end.ensures.ending fail_on))
    (service_of_judgement format fail_on document G (map left streams) MayNotServe IsKept
    (g.O.Write.contents c.args.output.now) (g.O.Write.contents c.judge_accepted.new.output) are
    (judgement_ending fail_on c.judge_accepted.result) (c.judge_accepted.ensures.written fail_on))

pub returns-in_err-write_port_file-clause-written : goal.returns-in_err-write_port_file-clause-written
returns-in_err-write_port_file-clause-written g c fail_on =
    let service = c.args.host.now.service.now in
    unfiled (format_view service.format) fail_on (inquiry_view c.args.inquiry)
    (g.N.Network.may_give c.args.host.now.network.now
    (place_view service.place)) (ServiceMayFail service.wait g.N.Network.never_fails) (text_view service.keep)
    (text_view service.port_file) (g.O.Write.contents c.args.output.now)
    c.from_residual-in_err-write_port_file.result c.in_err-write_port_file.field-0.0 (search rules) (search rules)
    (document_view c.args.spec.now, c.requires.document)

pub returns-in_err-kept-clause-written : goal.returns-in_err-kept-clause-written
returns-in_err-kept-clause-written g c fail_on =
    let service = c.args.host.now.service.now in
    unkept (format_view service.format) fail_on (inquiry_view c.args.inquiry)
    (g.N.Network.may_give c.args.host.now.network.now
    (place_view service.place)) (ServiceMayFail service.wait g.N.Network.never_fails) (text_view service.keep)
    (text_view service.port_file) (g.O.Write.contents c.args.output.now)
    c.from_residual-in_err-kept.result c.in_err-kept.field-0.0 (search rules) (search rules)
    (document_view c.args.spec.now, c.requires.document)

pub returns-in_err-write_port_file-clause-err : goal.returns-in_err-write_port_file-clause-err
returns-in_err-write_port_file-clause-err g c =
    let service = c.args.host.now.service.now in
    unfiled_fault (text_view service.keep) (text_view service.port_file) c.from_residual-in_err-write_port_file.result
    c.in_err-write_port_file.field-0.0 (search rules) (search rules)
