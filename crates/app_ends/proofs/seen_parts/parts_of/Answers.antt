-- A line divides two parts, or is passed; the last part ends with the bundle.
use Rattle.std.proofs.Common.{◌≡◌, ◌+◌, length, vec_len, ◌∙◌, sym, arith}
use Rattle.app_ends.proofs.PartPlaces.{line_divides, line_passed, next_line, none_cut, parts_end}
use Rattle.app_ends.proofs.seen_parts.parts_of.Goals as goal

pub lines-init : goal.lines-init
lines-init c = rw c.new-parts.ensures.items (none_cut c.args.bundle.now)

pub lines-preserved-in_ok-push : goal.lines-preserved-in_ok-push
lines-preserved-in_ok-push c =
    let counted : vec_len c.lines.parts ≡ length c.lines.parts.items = c.lines.parts.ok.0 in
    let next = next_line c.args.bundle.now c.lines.at c.line_length.result c.lines.invariant.within
    c.line_length.ensures in
    rw c.in_ok-push.ensures.items
    (line_divides c.args.bundle.now c.lines.parts.items c.in_ok-part.part c.lines.start c.lines.before c.lines.at
    (c.lines.at + c.line_length.result) c.lines.lines c.lines.invariant next
    (sym c.is_separator.ensures ∙ c.if-is_separator.true) (rw counted at (rw c.len.ensures at c.in_ok-part.ensures)))

pub lines-preserved : goal.lines-preserved
lines-preserved c =
    let next = next_line c.args.bundle.now c.lines.at c.line_length.result c.lines.invariant.within
    c.line_length.ensures in
    line_passed c.args.bundle.now c.lines.parts.items c.lines.start c.lines.before c.lines.at
    (c.lines.at + c.line_length.result) c.lines.lines c.lines.invariant next
    (sym c.is_separator.ensures ∙ c.if-is_separator.false)

pub returns : goal.returns
returns c =
    let counted : vec_len c.lines.parts ≡ length c.lines.parts.items = c.lines.parts.ok.0 in
    rw c.in_ok-push-2.ensures.items
    (parts_end c.args.bundle.now c.lines.parts.items c.in_ok-last.last c.lines.start c.lines.before c.lines.at
    c.lines.lines c.lines.invariant (omega (arith, c.lines-test.false))
    (rw counted at (rw c.len-2.ensures at c.in_ok-last.ensures)))
