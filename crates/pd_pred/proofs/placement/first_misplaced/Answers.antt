-- The first misplaced token with its fault, if there is one.
use Rattle.std.proofs.Common.{arith, ap}
use Rattle.pd_pred.specs.Placement.{Position, position_view}
use Rattle.pd_pred.specs.States.{open_parens}
use Rattle.pd_pred.proofs.PlacementWalk.{sound_start, sound_next, first_fault}
use Rattle.pd_pred.proofs.placement.first_misplaced.Goals as goal

pub loop-placed-init : goal.loop-placed-init
loop-placed-init c = record {
  sound = sound_start c.args.names.now (position_view c.new-place.result) c.new-place.ensures;
  few = omega (arith, ap (λ (p : Position). open_parens p.state) c.new-place.ensures);
}

pub returns-in-Err-clause-misplaced : goal.returns-in-Err-clause-misplaced
returns-in-Err-clause-misplaced c =
    let walked = c.prefixes_are_walked.ensures in
    let heights = c.depths_are_heights.ensures in
    first_fault walked.exact walked.go_on heights.exact heights.go_on c.args.names.now
    (position_view c.loop-placed.place) c.args.tokens.now c.loop-placed.placed-index _ c.in-Err.kind
    c.loop-placed-test.true
    c.loop-placed.invariant.sound c.in-Err.ensures.err

pub loop-placed-preserved : goal.loop-placed-preserved
loop-placed-preserved c =
    let walked = c.prefixes_are_walked.ensures in
    let heights = c.depths_are_heights.ensures in
    let steps = c.in_default.ensures.ok in
    let few = c.in_default.ensures.few in
    let earlier = c.loop-placed.invariant.few in
    record {
      sound = sound_next walked.exact walked.go_on heights.exact heights.go_on c.args.names.now
          (position_view c.loop-placed.place) (position_view c.read.new.self) c.args.tokens.now
          c.loop-placed.placed-index _ c.loop-placed-test.true c.loop-placed.invariant.sound steps;
      few = omega arith;
    }
