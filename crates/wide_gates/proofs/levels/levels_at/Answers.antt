-- The greatest sum of counts is the greatest number of events.
use Rattle.std.proofs.Common.{false, List, ℤ, sym, subst, arith}
use Rattle.std.specs.Prelude.{Vec}
use Rattle.std.specs.Global.{Global}
use Rattle.wide_gates.specs.Greatest.{AreMost}
use Rattle.wide_gates.specs.Levels.{AreLevelNumbers, AreSame}
use Rattle.wide_gates.specs.declared.spot.Spot.{Spot}
use Rattle.wide_gates.proofs.Counting.{level_numbers, levels_are}
use Rattle.wide_gates.proofs.levels.levels_at.Goals as goal
use Rattle.wide_gates.proofs.levels.levels_at.Goals.{In_ok-sums}

none : Spot
none = record { place = record { process = 0; number = 0 }; after = false }

most : (c : In_ok-sums) → AreMost c.args.computation.now.events c.args.spots.now c.in_ok-rows.rows.items
    c.in_ok-sums.sums.items
most c =
    subst
    (λ (rows : List (Vec ℤ Global)). AreMost c.args.computation.now.events c.args.spots.now rows
    c.in_ok-sums.sums.items) c.deref.ensures.value c.in_ok-sums.ensures

pub naturals-requires : goal.naturals-requires
naturals-requires c =
    let at = (goal.at.naturals-requires c).In_ok-sums in
    subst AreLevelNumbers (sym c.deref-2.ensures.value)
    (level_numbers c.args.computation.now.events c.in_ok-rows.rows.items c.in_ok-rows.ensures.values.one_each
    c.in_ok-rows.ensures.counts c.args.spots.now none c.in_ok-sums.sums.items
    (omega (arith, c.total.ensures.sum, c.total.ensures.small)) (most at))

pub returns : goal.returns
returns c =
    let at = (goal.at.returns c).In_ok-sums in
    levels_are c.args.computation.now.events c.in_ok-rows.rows.items c.in_ok-rows.ensures.values.one_each
    c.in_ok-rows.ensures.counts c.args.spots.now c.in_ok-sums.sums.items c.in_ok-levels.levels.items (most at)
    (subst (λ (sums : List ℤ). AreSame sums c.in_ok-levels.levels.items) c.deref-2.ensures.value
    c.in_ok-levels.ensures)
