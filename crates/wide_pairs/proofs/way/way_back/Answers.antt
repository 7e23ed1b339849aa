-- One event less.
use Rattle.std.proofs.Common.{◌-◌, List, ℕ, reverse, sym, ap, ◌∙◌, subst, arith}
use Rattle.std.proofs.lemmas.List.{reverse-reverse}
use Rattle.def_model.specs.Answers.{IsUndoing}
use Rattle.def_model.specs.Cuts.{full_cut}
use Rattle.wide_pairs.specs.Avoiding.{test_of_pairs}
use Rattle.wide_pairs.proofs.Passing.{reached_consistent, reached_empty, some_leaves}
use Rattle.wide_pairs.proofs.way.way_back.Goals as goal

pub least_leaving-r-requires-clause-consistent : goal.least_leaving-r-requires-clause-consistent
least_leaving-r-requires-clause-consistent g c =
    reached_consistent c.args.computation.now.events (test_of_pairs (g.G.GoodPairs.good c.args.wanted.now) c.args.p
    c.args.q) c.loop-events.path.items c.loop-events.cut c.loop-events.invariant.reached

pub least_leaving-r-requires-clause-some : goal.least_leaving-r-requires-clause-some
least_leaving-r-requires-clause-some g c =
    some_leaves c.args.computation.now.events (test_of_pairs (g.G.GoodPairs.good c.args.wanted.now) c.args.p c.args.q)
    c.loop-events.path.items c.loop-events.cut (c.loop-events.events - 1) c.loop-events.invariant.reached
    (omega (arith, c.loop-events.invariant.number, c.loop-events-test.true))

pub returns : goal.returns
returns g c =
    let test = test_of_pairs (g.G.GoodPairs.good c.args.wanted.now) c.args.p c.args.q in (
      c.requires.full,
      subst (λ (path : List ℕ). IsUndoing c.args.computation.now.events test
          (full_cut c.args.computation.now.events) path)
          (sym (ap reverse c.reverse.ensures.items ∙ reverse-reverse c.loop-events.path.items))
          (reached_empty c.args.computation.now.events test c.loop-events.path.items c.loop-events.cut
          c.loop-events.invariant.reached (omega (arith, c.loop-events.invariant.number, c.loop-events-test.false))),
    )
