-- By how many sums there are.
use Rattle.std.proofs.Common.{List, [], ◌∷◌, ◌≡◌, map, sym, ap, ◌∙◌, subst, Option, arith}
use Rattle.std.proofs.lemmas.List.{get_or-map, length-map}
use Rattle.std.proofs.lemmas.Result.{IfOk-weaker}
use Rattle.std.specs.Prelude.{ℕ}
use Rattle.def_wide.specs.Sums.{IsDecidedTerm}
use Rattle.def_wide.specs.Terms as model
use Rattle.wide_slice.specs.Steps.{IsInside}
use Rattle.wide_sums.specs.FirstCuts.{IsLowestAs, IsLowestIfAny, IsLowestOf, Satisfies}
use Rattle.wide_sums.specs.Literals.{literal_view}
use Rattle.wide_sums.specs.Splits.{AreSums}
use Rattle.wide_sums.specs.TermVerdicts.{IsSliceFor}
use Rattle.wide_sums.proofs.TermCuts.{lowest_of_none, lowest_of_only, none_of_several}
use Rattle.wide_sums.proofs.TermDecisions.{none_of, one_of}
use Rattle.wide_sums.proofs.first.lowest_in_slice.Goals as goal

pub returns-then-sums-eq0 : goal.returns-then-sums-eq0
returns-then-sums-eq0 g c term are same decided =
    let sums = map literal_view c.args.sums.now in
    subst (λ (cut : List ℕ). IsLowestOf (Satisfies c.args.computation.now term) cut)
    (sym (c.in_ok-cut.ensures.ok ∙ c.least.ensures))
    (lowest_of_none c.args.computation.now term (g.G.GoodCounts.good c.args.wanted.now) same
    c.args.slice.now.least.items c.requires.slice.least
    (subst (AreSums term) (none_of sums (length-map c.args.sums.now literal_view ∙ c.if-sums-eq0.true)) are))

pub returns-then-sums-eq1 : goal.returns-then-sums-eq1
returns-then-sums-eq1 g c =
    let r = c.args.computation.now in
    let good = g.G.GoodCounts.good c.args.wanted.now in
    let least = c.args.slice.now.least.items in
    let sums = map literal_view c.args.sums.now in
    let l = literal_view c.index-sums-0.result in
    let single : sums ≡ l ∷ [] = one_of sums l (length-map c.args.sums.now literal_view ∙ c.if-sums-eq1.true)
    (get_or-map literal_view c.args.sums.now 0 c.index-sums-0.result l (omega (arith, c.if-sums-eq1.true))
    ∙ ap literal_view (sym c.index-sums-0.is)) in
    IfOk-weaker c.lowest_of_one.result (IsLowestAs l.comparison (IsInside r.events good) r l least)
    (λ (found : Option (List ℕ)). (term : List model.Literal) → AreSums term sums → IsSliceFor r term good
    → IsDecidedTerm r term → IsLowestIfAny (Satisfies r term) found)
    (λ found lowest term are same decided.
    lowest_of_only r term good same least c.requires.slice.least l (subst (AreSums term) single are)
    c.limits.ensures.acyclic decided found lowest)
    c.lowest_of_one.ensures

pub returns : goal.returns
returns g c term are same decided =
    none_of_several c.args.computation.now term (g.G.GoodCounts.good c.args.wanted.now) same
    (map literal_view c.args.sums.now)
    (omega (arith, length-map c.args.sums.now literal_view, c.if-sums-eq0.false, c.if-sums-eq1.false)) are decided
