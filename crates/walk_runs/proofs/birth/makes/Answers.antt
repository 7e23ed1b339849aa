-- What the process before the latest makes, and what the others do.
use Rattle.std.proofs.Common.{◌-◌, ℕ, Option, inl, length, subst, arith}
use Rattle.walk_runs.specs.Points.{IsWanted, point_cut}
use Rattle.walk_runs.proofs.Growing.{made_or_later}
use Rattle.walk_runs.proofs.birth.makes.Goals as goal

pub returns-then-p-latest-clause-all : goal.returns-then-p-latest-clause-all
returns-then-p-latest-clause-all g c =
    made_or_later c.args.steps.now c.limits.ensures.walkable.one_send
    (point_cut (length c.args.steps.now - 2) c.args.point.now) c.args.by c.args.latest c.args.p c.requires.cut
    c.requires.within (omega arith) (c.requires.latest (omega arith)) c.follows.result c.follows.ensures.all

pub returns-in-Some-clause-all : goal.returns-in-Some-clause-all
returns-in-Some-clause-all g c = λ wanted.
    inl (c.follows-in-Some.ensures.all (subst (λ (by : Option ℕ).
    IsWanted c.args.steps.now (point_cut (length c.args.steps.now - 2) c.args.point.now) by c.args.p) c.in-Some.is
    wanted))

pub returns-in-None-clause-all : goal.returns-in-None-clause-all
returns-in-None-clause-all g c = λ wanted.
    inl (c.can_add.ensures.1 (subst (λ (by : Option ℕ).
    IsWanted c.args.steps.now (point_cut (length c.args.steps.now - 2) c.args.point.now) by c.args.p) c.in-None.is
    wanted))
