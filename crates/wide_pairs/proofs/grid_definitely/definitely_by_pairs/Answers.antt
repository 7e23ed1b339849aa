-- By the last pair.
use Rattle.std.proofs.Common.{◌+◌, ◌<◌, List, sym, refl, subst, arith}
use Rattle.std.proofs.lemmas.Bool.{false≢true}
use Rattle.def_model.specs.Events.{event_count}
use Rattle.wide_pairs.specs.Avoiding.{test_of_pairs}
use Rattle.wide_pairs.specs.Grids.{AreRows}
use Rattle.wide_pairs.specs.declared.grid_row.Row.{Row}
use Rattle.wide_pairs.proofs.Passing.{full_by_pair, least_free, least_free_of, passes, path_of}
use Rattle.wide_pairs.proofs.grid_definitely.definitely_by_pairs.Goals as goal

pub way_back-requires-clause-full : goal.way_back-requires-clause-full
way_back-requires-clause-full g c =
    let events = c.args.computation.now.events in
    let good = g.G.GoodPairs.good c.args.wanted.now in
    let test = test_of_pairs good c.args.p c.args.q in
    let rows : AreRows events test c.args.p c.args.q (event_count events c.args.p + 1) c.deref-3.result.now =
    subst (λ (rows : List Row). AreRows events test c.args.p c.args.q (event_count events c.args.p + 1) rows)
    (sym c.deref-3.ensures.value) c.in_ok-rows.ensures in
    (full_by_pair events c.limits.ensures.acyclic good c.args.p c.args.q c.events.result c.events-2.result
    (λ e. let less : c.args.p < c.args.q = c.requires.order in omega (arith, e)) c.events.ensures c.events-2.ensures).1
    ((c.if-is_avoiding.ensures events test c.args.p c.args.q (event_count events c.args.p + 1) rows).0 refl)

pub returns-then-is_avoiding : goal.returns-then-is_avoiding
returns-then-is_avoiding g c = λ test of.
    path_of c.args.computation.now.events (g.G.GoodPairs.good c.args.wanted.now) c.args.p c.args.q test of
    c.in_ok-path.path.items c.in_ok-path.ensures

pub returns : goal.returns
returns g c =
    let events = c.args.computation.now.events in
    let good = g.G.GoodPairs.good c.args.wanted.now in
    let test_here = test_of_pairs good c.args.p c.args.q in
    let rows : AreRows events test_here c.args.p c.args.q (event_count events c.args.p + 1) c.deref-3.result.now =
    subst (λ (rows : List Row). AreRows events test_here c.args.p c.args.q (event_count events c.args.p + 1) rows)
    (sym c.deref-3.ensures.value) c.in_ok-rows.ensures in
    λ test of. (
      least_free_of events good c.args.p c.args.q test of c.in_ok-level.level
          (least_free events test_here c.args.p c.in_ok-level.level c.in_ok-level.ensures),
      passes events good c.args.p c.args.q test of (λ full. false≢true
          ((c.if-is_avoiding.ensures events test_here c.args.p c.args.q (event_count events c.args.p + 1) rows).1
          ((full_by_pair events c.limits.ensures.acyclic good c.args.p c.args.q c.events.result c.events-2.result
          (λ e. let less : c.args.p < c.args.q = c.requires.order in omega (arith, e)) c.events.ensures
          c.events-2.ensures).0 full))),
    )
