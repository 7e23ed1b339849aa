-- The births at both ends of a run.
use Rattle.std.proofs.Common.{◌+◌, ◌-◌, ◌≡◌, ◌≤◌, ap, subst, length, arith}
use Rattle.walk_runs.specs.Kept.{KeyedRun}
use Rattle.walk_runs.specs.KeptRuns.{GrowsAtEnds}
use Rattle.walk_runs.proofs.Pushing.{grow_ends}
use Rattle.walk_runs.proofs.advance.add_births_of.Goals as goal

pub returns : goal.returns
returns g c =
    let run : KeyedRun = record {
      key = g.K.Key.number c.run.inside.key;
      lo = c.run.inside.lo;
      hi = c.run.inside.hi;
      rest = c.run.inside.rest;
    } in
    let lo_is : c.run.inside.lo ≡ c.args.run.now.lo = ap (λ (r : KeyedRun). r.lo) c.run.view_is in
    let hi_is : c.run.inside.hi ≡ c.args.run.now.hi = ap (λ (r : KeyedRun). r.hi) c.run.view_is in
    let rest_is : c.run.inside.rest ≡ c.args.run.now.rest = ap (λ (r : KeyedRun). r.rest) c.run.view_is in
    let some : c.run.inside.lo ≤ c.run.inside.hi = omega (arith, c.requires.some) in
    let within : c.run.inside.hi ≤ c.run.inside.rest = omega (arith, c.requires.within) in
    let q_is : c.prefix-x.result + 1 ≡ length c.args.steps.now - 1 =
    omega (arith, c.prefix-x.ensures, c.limits.ensures.two) in
    subst (λ (r : KeyedRun). GrowsAtEnds c.args.steps.now r c.args.top c.args.low c.args.born.now
    c.add_births_if-2.new.born) c.run.view_is
    (grow_ends c.args.steps.now run c.args.top c.args.low c.prefix-x.result
    (c.prefix-x.result + 1) c.prefix-x.ensures q_is some within c.args.born.now
    c.add_births_if.new.born c.add_births_if-2.new.born c.in_ok-add_births_if.ensures
    c.in_ok-add_births_if-2.ensures)
