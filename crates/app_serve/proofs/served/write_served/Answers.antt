-- By the format.
use Rattle.std.proofs.Common.{map, subst, sym}
use Rattle.app_arguments.specs.Views.{format_view}
use Rattle.app_arguments.specs.declared.format.Format.{Format}
use Rattle.app_serve.specs.Served.{IsServed}
use Rattle.def_judgement.specs.Writes.{Writes}
use Rattle.judge_session.specs.Ends.{call_end}
use Rattle.judge_session.specs.Inquiries.{inquiry_view}
use Rattle.pd_engine.specs.Ends.{IsGiven}
use Rattle.app_serve.proofs.served.write_served.Goals as goal

pub returns-in-Plain-clause-written : goal.returns-in-Plain-clause-written
returns-in-Plain-clause-written g c =
    let asked = inquiry_view c.args.inquiry in
    let inputs = map g.R.ByteSource.left c.args.streams.items in
    let old = g.O.Write.contents c.args.output.now in
    let new = g.O.Write.contents c.write_text.new.output in
    subst (λ (format : Format). Writes (IsServed (format_view format) asked inputs (IsGiven c.write_text.result))
    (call_end c.write_text.result) old new) (sym c.in-Plain.is) c.write_text.ensures.written
