-- All of the report is left if the session can't be kept to its end, or nothing if it can't from its start.
use Rattle.app_arguments.specs.Views.{format_view, place_view}
use Rattle.app_arguments.specs.Statuses.{ServiceMayFail}
use Rattle.judge_session.specs.Inquiries.{inquiry_view}
use Rattle.app_serve.specs.Kept.{AsksForFiles}
use Rattle.app_serve.proofs.Accepted.{kept_service}
use Rattle.app_serve.proofs.server.serve_kept.Goals as goal

pub returns : goal.returns
returns g c fail_on =
    let service = c.args.host.now.service.now in
    let network = c.args.host.now.network.now in
    kept_service (format_view service.format) (inquiry_view c.args.inquiry) (g.N.Network.may_give network
    (place_view service.place))
    (ServiceMayFail service.wait g.N.Network.never_fails) (AsksForFiles service) fail_on
    (g.O.Write.contents c.args.output.now) (g.O.Write.contents c.serve_session-end.new.output)
    c.serve_session-end.result c.kept_end.result c.end_keeping-is_kept.result c.kept_end.ensures.kept
    c.kept_end.ensures.unkept (c.serve_session-end.ensures.written fail_on)
