-- A refused document has no streams.
use Rattle.std.proofs.Common.{◌≡◌, [], ◌∙◌, false, subst, sym}
use Rattle.def_judgement.specs.Headline.{is_judged}
use Rattle.pd_report.specs.Views.{report_view}
use Rattle.app_arguments.specs.Statuses.{Ending, OfConnections, ServiceMayFail}
use Rattle.judge_session.specs.Inquiries.{inquiry_view}
use Rattle.app_serve.specs.Kept.{WritesFiles}
use Rattle.app_serve.proofs.Accepted.{accepted_of_refused, refused_outcome, service_faults, service_of_judgement, service_outcome}
use Rattle.app_host.proofs.NamedPredicates.{refused_unless_memory}
use Rattle.app_host.specs.Faults.{judgement_ending}
use Rattle.app_host.specs.FileSources.{ReadLeaves}
use Rattle.app_serve.specs.Served.{IsServed}
use Rattle.app_arguments.specs.Views.{format_view}
use Rattle.app_serve.proofs.server.refuse_document.Goals as goal

pub returns-clause-written : goal.returns-clause-written
returns-clause-written g c place fail_on wait keep port_file =
    let document = inquiry_view c.args.inquiry in
    let G = g.Y.Network.Network.may_give c.args.host.now.network.now place in
    let format = format_view c.args.host.now.service.now.format in
    let refused = refused_unless_memory document c.args.fault.now
    (sym c.is_out_of_memory.ensures ∙ c.if-is_out_of_memory.false) c.requires in
    subst (λ (e : Ending). ReadLeaves (OfConnections (IsServed format) G
    (ServiceMayFail wait g.Y.Network.Network.never_fails)
    (WritesFiles keep port_file) fail_on document) e (g.O.Write.contents c.args.output.now)
    (g.O.Write.contents c.judge_no_streams-end.new.output))
    (sym (c.service_end.ensures.ending fail_on))
    (service_of_judgement format fail_on document G [] (ServiceMayFail wait g.Y.Network.Network.never_fails)
    (WritesFiles keep port_file) (g.O.Write.contents c.args.output.now)
    (g.O.Write.contents c.judge_no_streams-end.new.output)
    (accepted_of_refused document G refused.0 c.one_document.ensures.not_refused refused.1)
    (judgement_ending fail_on c.judge_no_streams-end.result) (c.judge_no_streams-end.ensures.written fail_on))

pub returns-clause-refused : goal.returns-clause-refused
returns-clause-refused g c =
    let document = inquiry_view c.args.inquiry in
    let refused = refused_unless_memory document c.args.fault.now
    (sym c.is_out_of_memory.ensures ∙ c.if-is_out_of_memory.false) c.requires in
    service_outcome c.judge_no_streams-end.result c.service_end.result (λ report. is_judged
    (report_view report) ≡ false)
    c.service_end.ensures.same
    (refused_outcome (format_view c.args.host.now.service.now.format) document [] c.judge_no_streams-end.result
    (g.O.Write.contents c.args.output.now)
    (g.O.Write.contents c.judge_no_streams-end.new.output) refused.0 c.one_document.ensures.not_refused refused.1
    (c.judge_no_streams-end.ensures.written []))

pub returns-clause-err : goal.returns-clause-err
returns-clause-err g c =
    service_faults c.judge_no_streams-end.result c.service_end.result c.service_end.ensures.same
    c.judge_no_streams-end.ensures.err
