-- The page, or that of the refusal, is owed.
use Rattle.std.proofs.Common.{inl, map}
use Rattle.judge_explore.specs.FileViews.{files_view}
use Rattle.judge_session.specs.Inquiries.{inquiry_view}
use Rattle.app_explore.proofs.exploration.page_of.Goals as goal

pub returns-in-Ok-clause-page : goal.returns-in-Ok-clause-page
returns-in-Ok-clause-page g c = inl c.in-Ok.ensures.page

pub returns-in-Err-clause-page : goal.returns-in-Err-clause-page
returns-in-Err-clause-page g c =
    c.unanswered_page.ensures.page (inquiry_view c.args.inquiry)
    (files_view c.args.sources.now) (map g.R.ByteSource.left c.args.streams.items) c.in-Err.ensures.refused
