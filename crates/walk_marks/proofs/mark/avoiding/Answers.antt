-- A bit is kept if a cut of one event less is marked and its own cut doesn't satisfy.
use Rattle.std.proofs.Common.{◌+◌, ◌-◌, refl, sym, ◌∙◌, arith}
use Rattle.walk_keys.specs.Words.{has_bit}
use Rattle.def_model.specs.Order.{HasNoCycle}
use Rattle.def_model.specs.Walks.{NoneBelow}
use Rattle.walk_marks.specs.Marks.{IsBefore}
use Rattle.walk_keys.specs.Neighbors.{cut_at}
use Rattle.walk_marks.specs.RunPlaces.{run_at}
use Rattle.walk_runs.specs.WholeLevels.{rest_at}
use Rattle.walk_marks.proofs.RunKeys.{keys_ascend, prefix_length}
use Rattle.walk_marks.proofs.AvoidingBits.{next_bit, first_bit, digits_at}
use Rattle.walk_marks.proofs.mark.avoiding.Goals as goal

pub parents-possible-requires-clause-ascending : goal.parents-possible-requires-clause-ascending
parents-possible-requires-clause-ascending g c =
    let known : IsBefore (g.T.RunTest.events c.args.test.now) (g.T.RunTest.test c.args.test.now) c.args.level.now
    c.in-Some.known.level.now c.in-Some.known.marks.now = rw c.in-Some.is at c.requires.known in
    keys_ascend (g.T.RunTest.events c.args.test.now) c.in-Some.known.level.now known.level_before
    (digits_at c.in-Some.known.level.now c.limits-in-Some.ensures.digits)

pub parents-possible-requires-clause-processes : goal.parents-possible-requires-clause-processes
parents-possible-requires-clause-processes g c =
    prefix_length (g.T.RunTest.events c.args.test.now) c.args.level.now c.requires.level c.args.i c.requires.within
    ∙ sym c.requires.level.processes

pub returns-in-Some-clause-bits : goal.returns-in-Some-clause-bits
returns-in-Some-clause-bits g c j lt =
    let known : IsBefore (g.T.RunTest.events c.args.test.now) (g.T.RunTest.test c.args.test.now) c.args.level.now
    c.in-Some.known.level.now c.in-Some.known.marks.now = rw c.in-Some.is at c.requires.known in
    next_bit (g.T.RunTest.events c.args.test.now) (g.T.RunTest.test c.args.test.now) c.args.level.now
    c.in-Some.known.level.now c.in-Some.known.marks.now c.requires.level (digits_at c.args.level.now
    c.limits.ensures.digits)
    (digits_at c.in-Some.known.level.now c.limits-in-Some.ensures.digits) known c.args.i (c.args.x + j)
    c.requires.within
    (omega (arith, c.requires.low)) (omega (arith, c.requires.high)) (has_bit c.parents-possible.result j)
    (g.T.RunTest.test c.args.test.now (cut_at (run_at c.args.level.now.runs c.args.i).prefix (c.args.x + j)
    (rest_at c.args.level.now.number (run_at c.args.level.now.runs c.args.i) - (c.args.x + j))))
    (has_bit c.unsatisfied.result j) (c.unsatisfied.ensures.bits j lt) refl (c.parents-possible.ensures.bits j lt)

pub returns-in-None-clause-bits : goal.returns-in-None-clause-bits
returns-in-None-clause-bits g c j lt =
    let known : HasNoCycle (g.T.RunTest.events c.args.test.now)
    × NoneBelow (g.T.RunTest.events c.args.test.now) (g.T.RunTest.test c.args.test.now) c.args.level.now.number =
    rw c.in-None.is at c.requires.known in
    first_bit (g.T.RunTest.events c.args.test.now) (g.T.RunTest.test c.args.test.now) c.args.level.now
    known.0 known.1 c.requires.level c.args.i (c.args.x + j) c.requires.within
    (omega (arith, c.requires.low)) (omega (arith, c.requires.high)) (has_bit c.lowest.result j)
    (g.T.RunTest.test c.args.test.now (cut_at (run_at c.args.level.now.runs c.args.i).prefix (c.args.x + j)
    (rest_at c.args.level.now.number (run_at c.args.level.now.runs c.args.i) - (c.args.x + j))))
    (has_bit c.unsatisfied-in-None.result j) (c.unsatisfied-in-None.ensures.bits j lt) refl
    (c.lowest.ensures.within j lt)
