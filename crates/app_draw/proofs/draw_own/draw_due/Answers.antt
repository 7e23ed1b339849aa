-- The report that is due is drawn, or the session is refused.
use Rattle.std.proofs.Common.{◌∙◌, ◌++◌, ℕ, List, ap, inl, map, subst}
use Rattle.def_format.specs.Reports.{report_text}
use Rattle.def_judgement.specs.Writes.{whole_source}
use Rattle.judge_session.specs.Inquiries.{inquiry_view}
use Rattle.out_picture.specs.Scopes.{scope_view}
use Rattle.pd_report.specs.Views.{report_view}
use Rattle.app_host.proofs.UnreadFiles.{keeps_same}
use Rattle.app_draw.specs.Drawings.{DrawReadLeaves, DrawsReport, IsUndrawn, session_heading}
use Rattle.app_draw.proofs.DueDrawn.{drawn_due, due_text}
use Rattle.app_draw.proofs.draw_own.draw_due.Goals as goal

pub returns-then-is_undrawn-clause-left : goal.returns-then-is_undrawn-clause-left
returns-then-is_undrawn-clause-left g c = inl (
  due_text (inquiry_view c.args.inquiry) (map (λ reader. whole_source reader.rest.now) c.args.streams.items)
      (report_view c.args.report.now) IsUndrawn c.requires.right (c.is_undrawn.ensures.yes c.if-is_undrawn.true),
  c.in_ok-notice.ensures
      ∙ ap (λ (why : List ℕ). session_heading ++ why) (c.deref.ensures.value ∙ c.in_ok-text.ensures),
  keeps_same (g.O.Write.contents c.args.output.now),
)

pub returns-clause-left : goal.returns-clause-left
returns-clause-left g c =
    let lefts = map (λ reader. whole_source reader.rest.now) c.args.streams.items in
    let old = g.O.Write.contents c.args.output.now in
    let new = g.O.Write.contents c.draw_report.new.output in
    let scope = scope_view c.args.scope.now in
    let inquiry = inquiry_view c.args.inquiry in
    drawn_due (report_text (report_view c.args.report.now)) lefts scope inquiry old new c.draw_report.result
    (subst (λ (b : List ℕ). DrawReadLeaves (DrawsReport b lefts scope inquiry) c.draw_report.result old new)
    (c.deref-2.ensures.value ∙ c.in_ok-text.ensures) c.draw_report.ensures.left)
