-- What is written is the text of the finding, up to the write that fails.
use Rattle.std.proofs.Common.{◌↔◌, ◌∙◌, Bool, Err, IsTrue, map, subst, sym}
use Rattle.app_arguments.specs.Statuses.{OfFinding}
use Rattle.app_arguments.specs.Views.{format_view}
use Rattle.def_judgement.specs.Findings.{IsClean}
use Rattle.def_judgement.specs.Writes.{whole_source}
use Rattle.judge_check.specs.Views.{finding_view}
use Rattle.judge_session.specs.Inquiries.{inquiry_view}
use Rattle.judge_session.specs.declared.fault.EngineFault.{EngineFault}
use Rattle.app_host.specs.Faults.{ending_view}
use Rattle.app_host.specs.FileSources.{ReadLeaves}
use Rattle.app_host.specs.Formats.{IsFindingIn}
use Rattle.app_host.proofs.FlushedTexts.{check_ends, check_fails}
use Rattle.app_host.proofs.checks.check_read.Goals as goal

pub returns-in-Ok : goal.returns-in-Ok
returns-in-Ok g c =
    let finding = finding_view c.in_ok-finding.finding in
    check_ends (format_view c.args.format) (inquiry_view c.args.inquiry) c.args.report.now
    (map g.R.ByteSource.left c.args.streams.items) c.is_clean.result finding c.deref.result.now
    (g.O.Write.contents c.args.output.now) (g.O.Write.contents c.write_flushed.new.output) c.requires.short
    c.in_ok-finding.ensures.found
    (subst (λ (good : Bool). IsTrue good ↔ IsClean finding) (sym c.is_clean.ensures) (c.clean_is_clean.ensures finding))
    (c.deref.ensures.value ∙ c.in_ok-text.ensures) c.in-Ok.ensures.written

pub returns : goal.returns
returns g c =
    let part = c.in-Err.ensures.part in
    let document = inquiry_view c.args.inquiry in
    let inputs = map g.R.ByteSource.left c.args.streams.items in
    let old = g.O.Write.contents c.args.output.now in
    let new = g.O.Write.contents c.write_flushed.new.output in
    subst (λ (fault : EngineFault). ReadLeaves (OfFinding (IsFindingIn (format_view c.args.format))
    (whole_source c.args.report.now) inputs document) (ending_view (Err fault)) old new) (sym c.in-Err.ensures.err)
    (check_fails (format_view c.args.format) document c.args.report.now inputs (finding_view c.in_ok-finding.finding)
    c.deref.result.now old new part.0 c.requires.short c.in_ok-finding.ensures.found
    (c.deref.ensures.value ∙ c.in_ok-text.ensures) part.2)
