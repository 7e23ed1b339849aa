-- More than one file beside a document that is refused are no streams alone.
use Rattle.std.proofs.Common.{arith, sym, ◌∙◌}
use Rattle.judge_session.specs.Inquiries.{inquiry_view}
use Rattle.app_host.proofs.NamedPredicates.{refused_unless_memory}
use Rattle.app_draw.proofs.FilesChosen.{refused_alone}
use Rattle.app_draw.proofs.draw_files.are_streams.Goals as goal

pub returns-else-is_out_of_memory-clause-no : goal.returns-else-is_out_of_memory-clause-no
returns-else-is_out_of_memory-clause-no c = λ _.
    let inquiry = inquiry_view c.args.inquiry in
    let refused = refused_unless_memory inquiry c.in-Err.fault
    (sym c.is_out_of_memory.ensures ∙ c.if-is_out_of_memory.false) c.in-Err.ensures.err in
    refused_alone inquiry refused.0 c.args.count c.one_document.ensures.not_refused refused.1
    (λ few. omega (arith, few, c.if-count-le1.false))
