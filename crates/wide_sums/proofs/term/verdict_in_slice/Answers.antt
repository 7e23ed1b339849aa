-- By how many sums there are.
use Rattle.std.proofs.Common.{◌≡◌, List, [], ◌∷◌, length, map, sym, ap, ◌∙◌, subst, ◌↔◌, arith}
use Rattle.std.proofs.lemmas.List.{get_or-map, length-map}
use Rattle.std.proofs.lemmas.Result.{IfOk-weaker}
use Rattle.std.specs.Prelude.{IsTrue}
use Rattle.def_wide.specs.Terms as model
use Rattle.wide_slice.specs.Steps.{IsInside}
use Rattle.wide_sums.specs.Literals.{literal_view}
use Rattle.wide_sums.specs.Splits.{AreSums}
use Rattle.wide_sums.specs.TermVerdicts.{IsSliceFor, IsVerdictOf, IsVerdictOfOne}
use Rattle.wide_sums.specs.declared.verdict.Verdict.{Verdict}
use Rattle.wide_sums.proofs.TermDecisions.{excluded_term, none_of, one_of, several_of, verdict_of_none, verdict_of_only}
use Rattle.wide_sums.proofs.term.verdict_in_slice.Goals as goal

pub returns-then-sums-eq0 : goal.returns-then-sums-eq0
returns-then-sums-eq0 g c term are tells same =
    let sums = map literal_view c.args.sums.now in
    verdict_of_none c.args.computation.now term (g.G.GoodCounts.good c.args.wanted.now) c.args.slice.now.least.items
    same c.requires.slice.least
    (subst (AreSums term) (none_of sums (length-map c.args.sums.now literal_view ∙ c.if-sums-eq0.true)) are)

pub returns-then-sums-eq1 : goal.returns-then-sums-eq1
returns-then-sums-eq1 g c =
    let r = c.args.computation.now in
    let good = g.G.GoodCounts.good c.args.wanted.now in
    let least = c.args.slice.now.least.items in
    let sums = map literal_view c.args.sums.now in
    let l = literal_view c.index-sums-0.result in
    let single : sums ≡ l ∷ [] = one_of sums l (length-map c.args.sums.now literal_view ∙ c.if-sums-eq1.true)
    (get_or-map literal_view c.args.sums.now 0 c.index-sums-0.result l (omega (arith, c.if-sums-eq1.true))
    ∙ ap literal_view (sym c.index-sums-0.is)) in
    IfOk-weaker c.verdict_of_one.result (IsVerdictOfOne (IsInside r.events good) r l least c.args.alone)
    (λ (verdict : Verdict). (term : List model.Literal) → AreSums term sums
    → (IsTrue c.args.alone ↔ (length term ≡ 1)) → IsSliceFor r term good → IsVerdictOf r term verdict)
    (λ verdict one term are tells same.
    verdict_of_only r term good least same c.requires.slice.least l (subst (AreSums term) single are) c.args.alone
    tells c.limits.ensures.acyclic verdict one)
    c.verdict_of_one.ensures

pub returns-then-excluded : goal.returns-then-excluded
returns-then-excluded g c term are tells same =
    excluded_term c.args.computation.now term (g.G.GoodCounts.good c.args.wanted.now) c.args.slice.now.least.items
    same c.requires.slice.least (map literal_view c.args.sums.now) are
    (c.in_ok-excluded.ensures.some c.if-excluded.true)

pub returns : goal.returns
returns g c term are tells same =
    several_of c.args.computation.now term (g.G.GoodCounts.good c.args.wanted.now) c.args.slice.now.least.items
    (map literal_view c.args.sums.now)
    (omega (arith, length-map c.args.sums.now literal_view, c.if-sums-eq0.false, c.if-sums-eq1.false))
    same c.requires.slice.least are (c.in_ok-excluded.ensures.none c.if-excluded.false)
