-- The sums differ where one is more than the other or less.
use Rattle.std.proofs.Common.{pos, ◌-ℤ◌, ◌≤ℤ◌, length}
use Rattle.def_model.specs.Predicates.{Differs}
use Rattle.wide_slice.specs.Steps.{IsInside}
use Rattle.wide_sums.specs.FirstCuts.{HasExcess}
use Rattle.wide_sums.specs.Literals.{literal_view}
use Rattle.wide_sums.specs.Verdicts.{Relates}
use Rattle.wide_sums.proofs.LowestOf.{lowest_either}
use Rattle.wide_sums.proofs.TermCuts.{differ_either}
use Rattle.wide_sums.proofs.lowest.lowest_differing.Goals as goal

pub returns : goal.returns
returns g c =
    let r = c.args.at.now.computation.now in
    let good = g.G.GoodCounts.good c.args.at.now.wanted.now in
    let l = literal_view c.args.literal.now in
    lowest_either (length r.events) (HasExcess (IsInside r.events good) r l (λ x. pos 1 ≤ℤ x))
    (HasExcess (IsInside r.events good) r l (λ x. x ≤ℤ (pos 0 -ℤ pos 1)))
    (HasExcess (IsInside r.events good) r l (Relates Differs)) (differ_either r good l) c.in_ok-above.above
    c.in_ok-below.below c.lower_of.result c.in_ok-above.ensures c.in_ok-below.ensures c.lower_of.ensures
