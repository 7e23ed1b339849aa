-- The report in the first file is drawn with the others.
use Rattle.std.proofs.Common.{◌≤◌, ℕ, List, arith, length, subst, sym}
use Rattle.def_judgement.specs.Writes.{IsWholeInput}
use Rattle.judge_session.specs.Inquiries.{inquiry_view}
use Rattle.out_picture.specs.Scopes.{scope_view}
use Rattle.app_draw.proofs.FilesChosen.{claim_drawn}
use Rattle.app_draw.proofs.draw_files.draw_claim.Goals as goal

pub returns : goal.returns
returns g c =
    let bytes = c.deref.result.now in
    let report = g.R.ByteSource.left c.remove-report.result in
    let whole : IsWholeInput report bytes =
    subst (λ (b : List ℕ). IsWholeInput report b) (sym c.deref.ensures.value) c.in_ok-report.ensures.read in
    let fits : length bytes ≤ 268435456 =
    subst (λ (b : List ℕ). length b ≤ 268435456) (sym c.deref.ensures.value)
    (omega (arith, c.in_ok-report.ensures.fits, c.in_ok-report.report.ok.0)) in
    claim_drawn (scope_view c.args.scope.now) (inquiry_view c.args.inquiry) (g.O.Write.contents c.args.output.now)
    (g.O.Write.contents c.draw_report.new.output) g.R.ByteSource.left c.args.files.items c.remove-report.result
    c.remove-report.new.self.items bytes c.draw_report.result
    (omega (arith, c.requires.some, c.args.files.ok.0)) c.remove-report.ensures.value c.remove-report.ensures.items
    whole fits c.draw_report.ensures.left
