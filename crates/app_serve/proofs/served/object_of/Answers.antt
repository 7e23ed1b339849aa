-- The object, or that of the refusal, is owed.
use Rattle.std.proofs.Common.{[], inl, map}
use Rattle.judge_session.specs.Inquiries.{inquiry_view}
use Rattle.app_serve.proofs.served.object_of.Goals as goal

pub returns-in-Ok-clause-page : goal.returns-in-Ok-clause-page
returns-in-Ok-clause-page g c = inl c.in-Ok.ensures.page

pub returns-in-Err-clause-page : goal.returns-in-Err-clause-page
returns-in-Err-clause-page g c =
    c.refused_object.ensures.page (inquiry_view c.args.inquiry) [] (map g.R.ByteSource.left c.args.streams.items)
    c.in-Err.ensures.refused
