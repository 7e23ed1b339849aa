-- The level after the greatest cut that lacks a count of the least box, or the path where there is no box.
use Rattle.std.proofs.Common.{ℕ, List, rules, subst}
use Rattle.wide_conjunctions.specs.Boxes.{HasNoBox, IsLeastBox, IsLevelAfter}
use Rattle.def_model.specs.Cuts.{full_cut}
use Rattle.wide_conjunctions.proofs.passage.definitely_all_good.Goals as goal

pub returns-in_default : goal.returns-in_default
returns-in_default g c = λ test conjunction.
    let none : HasNoBox c.args.computation.now.events (g.G.GoodCounts.good c.args.wanted.now)
    (full_cut c.args.computation.now.events) = search rules in (
      c.boxes.ensures.path c.args.computation.now.events c.limits.ensures.acyclic test
          (g.G.GoodCounts.good c.args.wanted.now) conjunction none c.in_ok-path.path.items c.in_ok-path.ensures,
      c.boxes.ensures.none c.args.computation.now.events c.limits.ensures.acyclic test
          (g.G.GoodCounts.good c.args.wanted.now) conjunction none,
    )

pub returns : goal.returns
returns g c = λ test conjunction.
    let least : IsLeastBox c.args.computation.now.events (g.G.GoodCounts.good c.args.wanted.now)
    c.in-Some.starts.items = rw c.in-Some.is at c.in_ok-found.ensures.some in
    c.boxes.ensures.after c.args.computation.now.events c.limits.ensures.acyclic test
    (g.G.GoodCounts.good c.args.wanted.now) conjunction c.in-Some.starts.items least c.in_ok-level.level
    (subst (λ (counts : List ℕ). IsLevelAfter c.args.computation.now.events counts c.in_ok-level.level)
    c.deref.ensures.value c.in_ok-level.ensures)
