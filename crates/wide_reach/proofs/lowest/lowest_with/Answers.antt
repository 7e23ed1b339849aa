-- The lowest bound is the lowest cut.
use Rattle.std.proofs.Common.{◌≡◌, ◌<◌, ℕ, List, ℤ, Option, pos, ◌+ℤ◌, ◌≤ℤ◌, sym, ◌∙◌, subst}
use Rattle.std.specs.Int.{w128}
use Rattle.std.specs.Prelude.{MatchOption, Vec}
use Rattle.std.specs.Global.{Global}
use Rattle.std.proofs.lemmas.Int.{to_z-of_z}
use Rattle.wide_flow.specs.declared.step.Step.{Step}
use Rattle.wide_slice.specs.Values.{sum_at}
use Rattle.wide_reach.specs.Bounds.{IsLowestBound, Reaches}
use Rattle.wide_reach.specs.Reaches.{IsLowestWith}
use Rattle.wide_reach.proofs.LowestCuts.{least_lowest, lowest_cut, none_with, unordered}
use Rattle.wide_reach.proofs.lowest.lowest_with.Given.{Over}
use Rattle.wide_reach.proofs.lowest.lowest_with.Goals as goal
use Rattle.wide_reach.proofs.lowest.lowest_with.Goals.{In_ok-bound-in-Some}

pub lowest_bound-requires-clause-steps : goal.lowest_bound-requires-clause-steps
lowest_bound-requires-clause-steps g c =
    unordered c.args.computation.now.events (g.G.GoodCounts.good c.args.wanted.now) c.args.values.now
    c.args.slice.now.least.items c.in_ok-steps-in-Some.steps.items c.deref.result.now
    c.in_ok-full-in-Some.full.items c.deref-in-Some.result.now c.in_ok-steps-in-Some.ensures
    c.in_ok-full-in-Some.ensures c.deref.ensures.value c.deref-in-Some.ensures.value

lacks : (g : Over) (c : In_ok-bound-in-Some g) → (0 < c.in-Some.lack)
    × (c.args.total ≡ sum_at c.args.values.now c.args.slice.now.least.items +ℤ pos c.in-Some.lack)
lacks g c =
    subst
    (λ (t : ℤ × List ℕ). (0 < c.in-Some.lack) × (t.0 ≡ sum_at c.args.values.now t.1 +ℤ pos c.in-Some.lack))
    (λ i. (to_z-of_z w128 c.args.total c.ranges.total i, c.least.ensures i)) c.in-Some.ensures

-- what is said of the bound that was found
abbrev Found : (g : Over) → In_ok-bound-in-Some g → Option (Vec ℕ Global) → Type 0
Found g c o =
    MatchOption o (¬ Reaches c.in_ok-steps-in-Some.steps.items c.in-Some.lack c.in_ok-full-in-Some.full.items)
    (λ bound. IsLowestBound c.in_ok-steps-in-Some.steps.items c.in-Some.lack c.in_ok-full-in-Some.full.items
    bound.items)

found : (g : Over) (c : In_ok-bound-in-Some g) → Found g c c.in_ok-bound-in-Some.field-0
found g c =
    subst
    (λ (t : List Step × List ℕ). MatchOption c.in_ok-bound-in-Some.field-0 (¬ Reaches t.0 c.in-Some.lack t.1)
    (λ bound. IsLowestBound t.0 c.in-Some.lack t.1 bound.items))
    (λ i. (c.deref.ensures.value i, c.deref-in-Some.ensures.value i)) c.in_ok-bound-in-Some.ensures

pub returns-in-Some-2 : goal.returns-in-Some-2
returns-in-Some-2 g c =
    let at = (goal.at.returns-in-Some-2 g c).In_ok-bound-in-Some in
    subst
    (λ (cut : List ℕ). IsLowestWith c.args.computation.now.events (g.G.GoodCounts.good c.args.wanted.now)
    c.args.values.now c.args.total cut)
    (sym (c.in_ok-new-in-Some-2.ensures.ok ∙ c.deref-in-Some-2.ensures.value))
    (lowest_cut c.args.computation.now.events (g.G.GoodCounts.good c.args.wanted.now) c.args.values.now
    c.args.slice.now.least.items c.in_ok-steps-in-Some.steps.items c.in_ok-steps-in-Some.ensures c.args.total
    c.in-Some.lack (lacks g at) c.in_ok-full-in-Some.full.items c.in_ok-full-in-Some.ensures c.in-Some-2.bound.items
    (subst (λ (o : Option (Vec ℕ Global)). Found g at o) c.in-Some-2.is (found g at)))

pub returns-in-Some : goal.returns-in-Some
returns-in-Some g c =
    let at = (goal.at.returns-in-Some g c).In_ok-bound-in-Some in
    none_with c.args.computation.now.events (g.G.GoodCounts.good c.args.wanted.now) c.args.values.now
    c.args.slice.now.least.items c.in_ok-steps-in-Some.steps.items c.in_ok-steps-in-Some.ensures c.args.total
    c.in-Some.lack (lacks g at) c.in_ok-full-in-Some.full.items c.in_ok-full-in-Some.ensures
    (subst (λ (o : Option (Vec ℕ Global)). Found g at o) c.in-None-2.is (found g at))

pub returns : goal.returns
returns g c =
    subst
    (λ (cut : List ℕ). IsLowestWith c.args.computation.now.events (g.G.GoodCounts.good c.args.wanted.now)
    c.args.values.now c.args.total cut)
    (sym (c.in_ok-new-in-None.ensures.ok ∙ c.least-in-None.ensures))
    (least_lowest c.args.computation.now.events (g.G.GoodCounts.good c.args.wanted.now) c.args.values.now c.args.total
    c.args.slice.now.least.items c.requires.slice.least
    (subst (λ (t : ℤ × List ℕ). t.0 ≤ℤ sum_at c.args.values.now t.1)
    (λ i. (to_z-of_z w128 c.args.total c.ranges.total i, c.least.ensures i)) c.in-None.ensures))
