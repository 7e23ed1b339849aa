-- The count is one of its word.
use Rattle.std.proofs.Common.{◌≡◌, ◌+◌, ◌*◌, ◌/◌, ◌%◌, ap, ◌∙◌, arith}
use Rattle.wide_terms.specs.Rows.{term_allows}
use Rattle.wide_terms.proofs.terms.TermGoodCounts.is_good.Goals as goal

pub returns : goal.returns
returns c =
    let e : c.args.count / 64 * 64 + c.args.count % 64 ≡ c.args.count = omega arith in
    c.has.ensures
    ∙ (c.word.ensures (c.args.count % 64) (omega arith)
    ∙ ap (term_allows c.args.self.now.rows.now c.args.self.now.numbers.now c.args.process) e)
