-- The first line of what remains is a record, or it is passed over.
use Rattle.std.proofs.Common.{◌+◌, ◌<◌, length, sym, ap, ◌∙◌, arith}
use Rattle.std.specs.Option.{option_copied}
use Rattle.app_text.proofs.CutLines.{not_empty, record_found, blank_passed, shorter_rest}
use Rattle.app_text.proofs.lines.next_record.Goals as goal

pub returns-else-is_blank-clause-first : goal.returns-else-is_blank-clause-first
returns-else-is_blank-clause-first c = λ fits.
    let kept = c.lines.invariant fits in
    let some : 0 < length c.lines.rest.now =
    not_empty c.lines.rest.now c.is_empty.result c.is_empty.ensures c.lines-test.true in record {
      first_and_others = kept.1 ∙ record_found (c.lines.line + 1) c.lines.rest.now c.cut_line.result.0.now
          (option_copied c.cut_line.result.1) c.cut_line.ensures some (sym c.is_blank.ensures ∙ c.if-is_blank.false)
          c.saturating_add-line.result c.without_cr.result.now c.rest_after-after.result.now
          (omega (arith, kept.0, c.saturating_add-line.ensures, some)) c.without_cr.ensures c.rest_after-after.ensures;
    }

pub lines-preserved : goal.lines-preserved
lines-preserved c = λ fits.
    let kept = c.lines.invariant fits in
    let some : 0 < length c.lines.rest.now =
    not_empty c.lines.rest.now c.is_empty.result c.is_empty.ensures c.lines-test.true in
    let shorter = shorter_rest c.lines.rest.now c.cut_line.result.0.now (option_copied c.cut_line.result.1)
    c.cut_line.ensures some in (
      omega (arith, kept.0, c.saturating_add-line.ensures, some, shorter, ap length c.rest_after-after.ensures),
      kept.1 ∙ blank_passed (c.lines.line + 1) c.lines.rest.now c.cut_line.result.0.now
          (option_copied c.cut_line.result.1) c.cut_line.ensures some (sym c.is_blank.ensures ∙ c.if-is_blank.true)
          (c.saturating_add-line.result + 1) c.rest_after-after.result.now
          (omega (arith, kept.0, c.saturating_add-line.ensures, some)) c.rest_after-after.ensures,
    )
