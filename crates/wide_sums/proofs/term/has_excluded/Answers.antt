-- One comparison after another is excluded, or isn't.
use Rattle.std.proofs.Common.{◌≡◌, ℕ, ◌<◌, List, length, map, get_or, sym, ap, ◌∙◌, subst, arith}
use Rattle.std.proofs.lemmas.List.{get_or-map, get_or_default, length-map}
use borrow.Author.Count.{below_more}
use Rattle.std.specs.Prelude.{Contains}
use Rattle.def_model.specs.Predicates.{Comparison}
use Rattle.def_wide.specs.Terms as model
use Rattle.wide_slice.specs.Steps.{IsInside}
use Rattle.wide_sums.specs.Literals.{literal_view, no_literal}
use Rattle.wide_sums.specs.Verdicts.{IsNotExcludedAs}
use Rattle.wide_sums.specs.declared.literal.Literal.{Literal}
use Rattle.wide_sums.proofs.NamedBelow.{named_below}
use Rattle.wide_sums.proofs.term.has_excluded.Goals as goal

pub of-requires-clause-left : goal.of-requires-clause-left
of-requires-clause-left g c =
    (named_below (length c.args.at.now.computation.now.events) c.args.sums.now c.loop-i.i c.index-sums-i.result
    c.loop-i-test.true c.requires.names c.index-sums-i.is).0

pub of-requires-clause-right : goal.of-requires-clause-right
of-requires-clause-right g c =
    (named_below (length c.args.at.now.computation.now.events) c.args.sums.now c.loop-i.i c.index-sums-i.result
    c.loop-i-test.true c.requires.names c.index-sums-i.is).1

-- the comparison at this place is the one that is looked at
at_place : (sums : List Literal) (i : ℕ) (l : Literal) → i < length sums → l ≡ get_or sums i l
    → get_or (map literal_view sums) i no_literal ≡ literal_view l
at_place sums i l lt is = get_or-map literal_view sums i l no_literal lt ∙ ap literal_view (sym is)

pub loop-i-preserved : goal.loop-i-preserved
loop-i-preserved g c =
    let r = c.args.at.now.computation.now in
    let InSlice = IsInside r.events (g.G.GoodCounts.good c.args.at.now.wanted.now) in
    let l = literal_view c.index-sums-i.result in
    below_more (λ k. IsNotExcludedAs (get_or (map literal_view c.args.sums.now) k no_literal).comparison InSlice r
    (get_or (map literal_view c.args.sums.now) k no_literal)) c.loop-i.i c.loop-i.invariant
    (subst (λ (m : model.Literal). IsNotExcludedAs m.comparison InSlice r m)
    (sym (at_place c.args.sums.now c.loop-i.i c.index-sums-i.result c.loop-i-test.true c.index-sums-i.is))
    (subst (λ (v : Comparison). IsNotExcludedAs v InSlice r l) c.comparison_of.ensures
    (c.in_ok-is_excluded.ensures.no c.if-branch.false)))

-- what holds of each place holds of each that is contained
of_contained : (sums : List model.Literal) (P : model.Literal → Type 0)
    → ((k : ℕ) → k < length sums → P (get_or sums k no_literal)) → (l : model.Literal) → Contains sums l → P l
of_contained sums P each l (k, lt, is) =
    subst P (get_or_default sums k no_literal l lt ∙ is) (each k lt)

pub returns-clause-none : goal.returns-clause-none
returns-clause-none g c found l at =
    let r = c.args.at.now.computation.now in
    let InSlice = IsInside r.events (g.G.GoodCounts.good c.args.at.now.wanted.now) in
    let many : length (map literal_view c.args.sums.now) ≡ length c.args.sums.now =
    length-map c.args.sums.now literal_view in
    of_contained (map literal_view c.args.sums.now) (λ (m : model.Literal). IsNotExcludedAs m.comparison InSlice r m)
    (λ k lt. c.loop-i.invariant k (omega (arith, lt, many, c.loop-i-test.false))) l at
