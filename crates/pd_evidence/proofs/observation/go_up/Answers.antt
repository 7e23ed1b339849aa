-- Each step is one of the least process that goes up, until none does.
use Rattle.std.proofs.Common.{List, [], ◌∷◌, ◌++◌, ℕ, sym, subst}
use Rattle.def_model.specs.Cuts.{one_more}
use Rattle.pd_evidence.specs.Steps.{IsOnWay}
use Rattle.pd_evidence.proofs.LeastWays.{fewer_left, more_way, end_way, none_left}
use Rattle.pd_evidence.proofs.observation.go_up.Goals as goal

pub loop-p-smaller : goal.loop-p-smaller
loop-p-smaller c =
    rw c.redo.ensures (fewer_left c.args.computation.now.events c.args.to.now c.requires.ends c.loop-p.here c.in-Some.p
    c.loop-p.invariant.consistent c.loop-p.invariant.within c.in-Some.ensures.goes)

pub loop-p-preserved : goal.loop-p-preserved
loop-p-preserved c =
    let more : IsOnWay c.args.computation.now.events c.args.here.now c.args.to.now c.args.path.now.items
    (one_more c.loop-p.here c.in-Some.p) (c.loop-p.path.items ++ c.in-Some.p ∷ []) =
    more_way c.args.computation.now.events c.args.to.now c.requires.ends c.args.here.now c.args.path.now.items
    c.loop-p.here c.loop-p.path.items c.in-Some.p c.loop-p.invariant c.in-Some.ensures.goes c.in-Some.ensures.least in
    let pushed : IsOnWay c.args.computation.now.events c.args.here.now c.args.to.now c.args.path.now.items
    (one_more c.loop-p.here c.in-Some.p) c.push.new.self.items =
    subst (λ (xs : List ℕ). IsOnWay c.args.computation.now.events c.args.here.now c.args.to.now c.args.path.now.items
    (one_more c.loop-p.here c.in-Some.p) xs) (sym c.in_ok-push.ensures.items) more in
    subst (λ (x : List ℕ). IsOnWay c.args.computation.now.events c.args.here.now c.args.to.now c.args.path.now.items x
    c.push.new.self.items) (sym c.redo.ensures) pushed

pub returns-clause-arrives : goal.returns-clause-arrives
returns-clause-arrives c =
    none_left c.args.computation.now.events c.args.to.now c.requires.ends c.lattice.ensures.between
    c.limits.ensures.acyclic c.args.here.now c.args.path.now.items c.loop-p.here c.loop-p.path.items
    c.loop-p.invariant c.in_default.ensures.none

pub returns-clause-way : goal.returns-clause-way
returns-clause-way c =
    end_way c.args.computation.now.events c.args.to.now c.requires.ends c.args.here.now c.args.path.now.items
    c.loop-p.here c.loop-p.path.items c.loop-p.invariant
    (none_left c.args.computation.now.events c.args.to.now c.requires.ends c.lattice.ensures.between
    c.limits.ensures.acyclic c.args.here.now c.args.path.now.items c.loop-p.here c.loop-p.path.items
    c.loop-p.invariant c.in_default.ensures.none)
