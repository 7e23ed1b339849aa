-- Whether there is a least key says whether there is a cut.
use Rattle.std.proofs.Common.{◌≡◌, ◌<◌, ℕ, List, ℤ, pos, ◌+ℤ◌, sym, ◌∙◌, subst}
use Rattle.std.specs.Int.{w128}
use Rattle.std.specs.Prelude.{MatchOption}
use Rattle.std.proofs.lemmas.Int.{to_z-of_z}
use Rattle.wide_flow.specs.declared.step.Step.{Step}
use Rattle.wide_slice.specs.Values.{sum_at}
use Rattle.wide_reach.specs.declared.key.Key.TheVariants.{Height}
use Rattle.wide_reach.specs.Bounds.{IsLeastKey, Reaches}
use Rattle.wide_reach.proofs.LowestCuts.{none_found, some_with, unordered}
use Rattle.wide_reach.proofs.lowest.some_reaches.Given.{Over}
use Rattle.wide_reach.proofs.lowest.some_reaches.Goals as goal
use Rattle.wide_reach.proofs.lowest.some_reaches.Goals.{After-drop-steps-in-Some}

pub least_key-requires-clause-steps : goal.least_key-requires-clause-steps
least_key-requires-clause-steps g c =
    unordered c.args.computation.now.events (g.G.GoodCounts.good c.args.wanted.now) c.args.values.now
    c.args.slice.now.least.items c.in_ok-steps-in-Some.steps.items c.deref.result.now
    c.in_ok-full-in-Some.full.items c.deref-in-Some.result.now c.in_ok-steps-in-Some.ensures
    c.in_ok-full-in-Some.ensures c.deref.ensures.value c.deref-in-Some.ensures.value

lacks : (g : Over) (c : After-drop-steps-in-Some g) → (0 < c.in-Some.lack)
    × (c.args.total ≡ sum_at c.args.values.now c.args.slice.now.least.items +ℤ pos c.in-Some.lack)
lacks g c =
    subst
    (λ (t : ℤ × List ℕ). (0 < c.in-Some.lack) × (t.0 ≡ sum_at c.args.values.now t.1 +ℤ pos c.in-Some.lack))
    (λ i. (to_z-of_z w128 c.args.total c.ranges.total i, c.least.ensures i)) c.in-Some.ensures

found : (g : Over) (c : After-drop-steps-in-Some g) → MatchOption c.in_ok-height-in-Some.height
    (¬ Reaches c.in_ok-steps-in-Some.steps.items c.in-Some.lack c.in_ok-full-in-Some.full.items)
    (IsLeastKey c.in_ok-steps-in-Some.steps.items c.in-Some.lack c.in_ok-full-in-Some.full.items Height)
found g c =
    subst
    (λ (t : List Step × List ℕ). MatchOption c.in_ok-height-in-Some.height (¬ Reaches t.0 c.in-Some.lack t.1)
    (IsLeastKey t.0 c.in-Some.lack t.1 Height))
    (λ i. (c.deref.ensures.value i, c.deref-in-Some.ensures.value i)) c.in_ok-height-in-Some.ensures

pub returns-in_ok-height-in-Some-clause-some : goal.returns-in_ok-height-in-Some-clause-some
returns-in_ok-height-in-Some-clause-some g c = λ is.
    some_with c.args.computation.now.events (g.G.GoodCounts.good c.args.wanted.now) c.args.values.now
    c.args.slice.now.least.items c.in_ok-steps-in-Some.steps.items c.in_ok-steps-in-Some.ensures c.args.total
    c.in-Some.lack (lacks g c) c.in_ok-full-in-Some.full.items c.in_ok-full-in-Some.ensures Height
    c.in_ok-height-in-Some.height (found g c) (sym c.is_some.ensures ∙ is)

pub returns-in_ok-height-in-Some-clause-none : goal.returns-in_ok-height-in-Some-clause-none
returns-in_ok-height-in-Some-clause-none g c = λ is.
    none_found c.args.computation.now.events (g.G.GoodCounts.good c.args.wanted.now) c.args.values.now
    c.args.slice.now.least.items c.in_ok-steps-in-Some.steps.items c.in_ok-steps-in-Some.ensures c.args.total
    c.in-Some.lack (lacks g c) c.in_ok-full-in-Some.full.items c.in_ok-full-in-Some.ensures Height
    c.in_ok-height-in-Some.height (found g c) (sym c.is_some.ensures ∙ is)
