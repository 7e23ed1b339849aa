-- The object that is owed is written.
use Rattle.std.proofs.Common.{[], map}
use Rattle.judge_explore.specs.Explored.{Object}
use Rattle.judge_session.specs.Inquiries.{inquiry_view}
use Rattle.app_serve.proofs.served.write_object.Goals as goal

pub returns-clause-written : goal.returns-clause-written
returns-clause-written g c =
    c.write_page.ensures.written (inquiry_view c.args.inquiry) Object [] (map g.R.ByteSource.left c.args.streams.items)
    c.in_ok-page.ensures.page
