-- One term after another, and the predicate by its terms.
use Rattle.std.proofs.Common.{◌≡◌, ◌+◌, List, [], length, get_or, refl, subst, arith}
use Rattle.std.specs.Prelude.{Contains}
use Rattle.def_wide.specs.Terms.{Literal}
use Rattle.pd_pred.specs.Trees.{tree_view}
use Rattle.wide_sums.specs.FirstCuts.{Satisfies, SatisfiesSome}
use Rattle.wide_sums.specs.Literals.{terms_at}
use Rattle.wide_terms.specs.Rows.{numbers_view}
use Rattle.wide_sums.proofs.FirstByHeight.{first_by_height, none_at_first, one_term_more}
use Rattle.wide_sums.proofs.LowestOf.{lowest_either, same_lengths}
use Rattle.wide_sums.proofs.Reading.{many_terms}
use Rattle.wide_sums.proofs.Verdicts.{at_place, sums_named}
use Rattle.wide_sums.proofs.first.first_by_sums.Goals as goal

pub loop-i-init : goal.loop-i-init
loop-i-init c =
    let prepared = c.in_ok-prepared.prepared in
    none_at_first c.args.computation.now
    (terms_at prepared.terms.literals.items (numbers_view prepared.terms.terms.items))

pub lowest_of_term-requires-clause-names : goal.lowest_of_term-requires-clause-names
lowest_of_term-requires-clause-names c =
    let prepared = c.in_ok-prepared.prepared in
    let terms = terms_at prepared.terms.literals.items (numbers_view prepared.terms.terms.items) in
    let many : length prepared.terms.terms.items ≡ length terms =
    many_terms prepared.terms.literals.items prepared.terms.terms.items terms refl in
    sums_named (length c.args.computation.now.events) (tree_view c.args.tree.now) terms c.loop-i.i c.requires.there
    c.in_ok-prepared.ensures.terms (omega (arith, many, c.loop-i-test.true, c.len-i-end.ensures))

pub lowest_of_term-requires-clause-decided : goal.lowest_of_term-requires-clause-decided
lowest_of_term-requires-clause-decided c =
    let prepared = c.in_ok-prepared.prepared in
    let terms = terms_at prepared.terms.literals.items (numbers_view prepared.terms.terms.items) in
    let many : length prepared.terms.terms.items ≡ length terms =
    many_terms prepared.terms.literals.items prepared.terms.terms.items terms refl in
    c.requires.terms (get_or terms c.loop-i.i [])
    (subst (λ (ts : List (List Literal)). Contains ts (get_or terms c.loop-i.i [])) c.in_ok-prepared.ensures.terms
    (at_place terms c.loop-i.i (omega (arith, many, c.loop-i-test.true, c.len-i-end.ensures))))

pub lower_of-first-requires : goal.lower_of-first-requires
lower_of-first-requires c =
    let r = c.args.computation.now in
    let prepared = c.in_ok-prepared.prepared in
    let terms = terms_at prepared.terms.literals.items (numbers_view prepared.terms.terms.items) in
    same_lengths (length r.events) (SatisfiesSome r terms c.loop-i.i) (Satisfies r (get_or terms c.loop-i.i []))
    (SatisfiesSome r terms (c.loop-i.i + 1)) (one_term_more r terms c.loop-i.i) c.loop-i.first c.in_ok-cut.cut
    c.loop-i.invariant c.in_ok-cut.ensures

pub loop-i-preserved : goal.loop-i-preserved
loop-i-preserved c =
    let r = c.args.computation.now in
    let prepared = c.in_ok-prepared.prepared in
    let terms = terms_at prepared.terms.literals.items (numbers_view prepared.terms.terms.items) in
    lowest_either (length r.events) (SatisfiesSome r terms c.loop-i.i) (Satisfies r (get_or terms c.loop-i.i []))
    (SatisfiesSome r terms (c.loop-i.i + 1)) (one_term_more r terms c.loop-i.i) c.loop-i.first c.in_ok-cut.cut
    c.lower_of-first.result c.loop-i.invariant c.in_ok-cut.ensures c.lower_of-first.ensures

pub returns : goal.returns
returns c =
    let prepared = c.in_ok-prepared.prepared in
    let terms = terms_at prepared.terms.literals.items (numbers_view prepared.terms.terms.items) in
    let many : length prepared.terms.terms.items ≡ length terms =
    many_terms prepared.terms.literals.items prepared.terms.terms.items terms refl in
    first_by_height c.args.computation.now (tree_view c.args.tree.now) terms c.in_ok-prepared.ensures.terms c.loop-i.i
    (omega (arith, many, c.loop-i-test.false, c.len-i-end.ensures)) c.loop-i.first c.loop-i.invariant
