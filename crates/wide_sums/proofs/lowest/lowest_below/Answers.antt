-- The right sum less the left one reaches as much as the excess is below 0.
use mir.Syntax.{w128}
use Rattle.std.proofs.Common.{ℕ, List, ℤ, Option, pos, of_z, to_z, ◌-ℤ◌, ◌≤ℤ◌, sym, subst}
use Rattle.std.proofs.lemmas.Int.{to_z-of_z}
use Rattle.std.proofs.lemmas.Result.{IfOk-weaker}
use Rattle.std.specs.Global.{Global}
use Rattle.std.specs.Prelude.{MatchOption, Vec}
use Rattle.wide_reach.specs.Reaches.{HasNoneWith, IsLowestWith}
use Rattle.wide_slice.specs.Steps.{IsInside}
use Rattle.wide_sums.specs.FirstCuts.{HasExcess, IsLowestIfAny}
use Rattle.wide_sums.specs.Literals.{literal_view}
use Rattle.wide_sums.specs.Values.{IsDifference}
use Rattle.wide_sums.proofs.TermCuts.{lowest_low}
use Rattle.wide_sums.proofs.lowest.lowest_below.Goals as goal

pub returns : goal.returns
returns g c =
    let r = c.args.at.now.computation.now in
    let good = g.G.GoodCounts.good c.args.at.now.wanted.now in
    let l = literal_view c.args._literal.now in
    let values = c.deref.result.now in
    let total : ℤ = to_z w128 (of_z w128 c.args.least) in
    IfOk-weaker c.lowest_with.result
    (λ (found : Option (List ℕ)). MatchOption found (HasNoneWith r.events good values total)
    (IsLowestWith r.events good values total))
    (IsLowestIfAny (HasExcess (IsInside r.events good) r l (λ x. x ≤ℤ (pos 0 -ℤ c.args.least))))
    (lowest_low r good l values total c.args.least
    (subst (λ (rows : List (Vec ℤ Global)). IsDifference r l.right l.left rows) (sym c.deref.ensures.value)
    c.requires.excess.below)
    (to_z-of_z w128 c.args.least c.ranges.least))
    c.lowest_with.ensures
