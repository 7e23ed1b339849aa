-- The good counts are those of the term's slice.
use Rattle.std.proofs.Common.{List, map, sym, subst}
use Rattle.wide_sums.specs.Literals.{literal_view, terms_at}
use Rattle.wide_sums.specs.Splits.{AreSums}
use Rattle.wide_sums.specs.declared.literal.Literal.{Literal}
use Rattle.wide_terms.specs.Rows.{numbers_view, term_allows}
use Rattle.std.specs.Prelude.{[], slice_index_or}
use Rattle.wide_sums.proofs.TermCuts.{none_inside, slice_for}
use Rattle.wide_sums.proofs.first.lowest_of_term.Goals as goal

pub returns-in-Some : goal.returns-in-Some
returns-in-Some c =
    let r = c.args.computation.now in
    let prepared = c.args.prepared.now in
    let terms = terms_at prepared.terms.literals.items (numbers_view prepared.terms.terms.items) in
    let term = slice_index_or terms c.args.i [] in
    let split = c.in_ok-split.split in
    c.in_ok-cut-in-Some.ensures term
    (subst (λ (sums : List Literal). AreSums term (map literal_view sums)) (sym c.deref.ensures.value)
    c.in_ok-split.ensures.sums_of)
    (slice_for r prepared.rows.rows.items c.good-good.result.rows.now term split.numbers.items
    c.good-good.result.numbers.now (map literal_view split.sums.items) c.in_ok-split.ensures c.good-good.ensures.rows
    c.good-good.ensures.numbers) c.requires.decided

pub returns : goal.returns
returns c =
    let r = c.args.computation.now in
    let prepared = c.args.prepared.now in
    let terms = terms_at prepared.terms.literals.items (numbers_view prepared.terms.terms.items) in
    let term = slice_index_or terms c.args.i [] in
    let split = c.in_ok-split.split in
    none_inside r term (term_allows c.good-good.result.rows.now c.good-good.result.numbers.now)
    (slice_for r prepared.rows.rows.items c.good-good.result.rows.now term split.numbers.items
    c.good-good.result.numbers.now (map literal_view split.sums.items) c.in_ok-split.ensures c.good-good.ensures.rows
    c.good-good.ensures.numbers)
    (rw c.in-None.is at c.in_ok-found.ensures.none)
