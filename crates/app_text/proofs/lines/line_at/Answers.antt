-- Each line that is passed over is one of those before it.
use Rattle.std.proofs.Common.{◌≡◌, ◌+◌, ◌-◌, suc, [], get_or, sym, ap, ◌∙◌, arith}
use Rattle.def_format.specs.Lines.{all_lines}
use Rattle.app_text.specs.Lines.{without_cr}
use Rattle.app_text.proofs.CutLines.{first_line, later_line, no_later_line}
use Rattle.std.specs.Option.{option_copied}
use Rattle.app_text.proofs.lines.line_at.Goals as goal

pub returns-in-None : goal.returns-in-None
returns-in-None c =
    let e : suc (c.args.number - (c.loop-line._line + 1)) ≡ c.args.number - c.loop-line._line = omega arith in
    let cut = rw c.in-None.is at c.cut_line.ensures in
    ap without_cr (sym (no_later_line c.loop-line.rest.now c.cut_line.result.0.now cut
    (c.args.number - (c.loop-line._line + 1))) ∙ ap (λ n. get_or (all_lines c.loop-line.rest.now) n []) e
    ∙ c.loop-line.invariant)

pub loop-line-preserved : goal.loop-line-preserved
loop-line-preserved c =
    let e : suc (c.args.number - (c.loop-line._line + 1)) ≡ c.args.number - c.loop-line._line = omega arith in
    let cut = rw c.in-Some.is at c.cut_line.ensures in
    sym (later_line c.loop-line.rest.now c.cut_line.result.0.now c.in-Some.after.now cut
    (c.args.number - (c.loop-line._line + 1))) ∙ ap (λ n. get_or (all_lines c.loop-line.rest.now) n []) e
    ∙ c.loop-line.invariant

pub returns : goal.returns
returns c =
    let e : 0 ≡ c.args.number - c.loop-line._line = omega arith in
    c.without_cr.ensures ∙ ap without_cr (sym (first_line c.loop-line.rest.now c.cut_line-2.result.0.now
    (option_copied c.cut_line-2.result.1) c.cut_line-2.ensures)
    ∙ ap (λ n. get_or (all_lines c.loop-line.rest.now) n []) e ∙ c.loop-line.invariant)
